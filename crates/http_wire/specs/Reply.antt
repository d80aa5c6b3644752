-- Cited by public clauses. The heads of replies (RFC 9112, section 4). The choice of fields is the
-- project's own.
use Rattle.std.specs.Prelude.{ℕ, Bool, true, false, List, [], ◌++◌, codes, decimal}
use Rattle.http_wire.specs.declared.reply.Code.{Code}
use Rattle.http_wire.specs.declared.reply.Code.TheVariants as statuses

-- the status code and the reason phrase (RFC 9110, section 15)
abbrev pub status_of : Code → List ℕ
status_of statuses.Ok = codes "200 OK"
status_of statuses.BadRequest = codes "400 Bad Request"
status_of statuses.NotFound = codes "404 Not Found"
status_of statuses.NotAllowed = codes "405 Method Not Allowed"

-- the methods that are allowed, next to 405 (RFC 9110, section 10.2.1)
abbrev pub allow_line : Code → List ℕ
allow_line statuses.NotAllowed = codes "Allow: GET, HEAD\r\n"
allow_line _ = []

-- the announcement that the connection closes (RFC 9112, section 9.6)
abbrev pub close_line : Bool → List ℕ
close_line true = codes "Connection: close\r\n"
close_line false = []

-- the head of a reply with a page of that length, made of that edition; whether it is the last one
abbrev pub reply_head_of : Code → ℕ → ℕ → Bool → List ℕ
reply_head_of code length edition last =
    codes "HTTP/1.1 " ++ status_of code ++ codes "\r\n"
    ++ codes "Content-Type: text/html; charset=utf-8\r\n"
    ++ codes "Content-Length: " ++ decimal length ++ codes "\r\n"
    ++ codes "Godoc-Edition: " ++ decimal edition ++ codes "\r\n"
    ++ allow_line code ++ close_line last ++ codes "\r\n"

-- the one reply to a rest that is refused
abbrev pub bad_reply_bytes : List ℕ
bad_reply_bytes =
    codes "HTTP/1.1 400 Bad Request\r\n"
    ++ codes "Content-Type: text/plain; charset=utf-8\r\n"
    ++ codes "Content-Length: 12\r\n"
    ++ codes "Connection: close\r\n"
    ++ codes "\r\n"
    ++ codes "bad request\n"
