-- `event_calls::reply` meets its contract. Assumes nothing.
use Rattle.std.proofs.Common.{rules, ◌∙◌, zero-add}
use Rattle.lists.proofs.Adding.{lent_put}
use Rattle.event_calls.proofs.reply.Goals as goal

pub returns : goal.returns
returns c =
    let reply = c.put_reply.ensures in
    let put = lent_put reply.bytes (search rules) in
    record { service = reply.service; journal = reply.journal; bytes = put.end ∙ zero-add _; out = put.list }
