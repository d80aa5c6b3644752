-- The pieces of a reply's head, as they are written and as they are defined.
use Rattle.std.proofs.Common.{◌≡◌, ℕ, List, [], ◌++◌, append_assoc, codes}

pub reply_pieces : (status size edition allow close : List ℕ)
    → (((((((((([] ++ codes "HTTP/1.1 ") ++ status) ++ codes "\r\nContent-Type: text/html; charset=utf-8\r\nContent-Length: ")
    ++ size) ++ codes "\r\nGodoc-Edition: ") ++ edition) ++ codes "\r\n") ++ allow) ++ close) ++ codes "\r\n")
    ≡ codes "HTTP/1.1 " ++ status ++ codes "\r\n"
    ++ codes "Content-Type: text/html; charset=utf-8\r\n"
    ++ codes "Content-Length: " ++ size ++ codes "\r\n"
    ++ codes "Godoc-Edition: " ++ edition ++ codes "\r\n"
    ++ allow ++ close ++ codes "\r\n"
reply_pieces status size edition allow close = simp append_assoc
