use Rattle.http_wire.specs.Reply.{status_of, allow_line, close_line}
use Rattle.std.specs.Fmt.{decimal}
use Rattle.http_wire.proofs.ReplyLemmas.{reply_pieces}
use Rattle.http_wire.proofs.reply.reply_head.Goals as goal

pub returns : goal.returns
returns c =
    rw (c.into_bytes.ensures.bytes, c.in_ok-push-8.ensures.ok, c.in_ok-push-7.ensures.ok, c.in_ok-push-6.ensures.ok, c.in_ok-push-5.ensures.ok, c.in_ok-push_number-2.ensures.ok, c.in_ok-push-4.ensures.ok, c.in_ok-push_number.ensures.ok, c.in_ok-push-3.ensures.ok, c.in_ok-push-2.ensures.ok, c.in_ok-push.ensures.ok, c.new-head.ensures, c.status.ensures, c.allow_line.ensures, c.close_line.ensures)
    (reply_pieces (status_of c.args.code) (decimal c.args.length) (decimal c.args.edition) (allow_line c.args.code) (close_line c.args.last))
