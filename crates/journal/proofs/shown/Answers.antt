-- `journal::shown` meets its contract: what the chain finds, from the last entry back. Assumes nothing.
use Rattle.std.proofs.Common.{rules}
use borrow.Author.Tests.{tests}
use Rattle.std.proofs.lemmas.Iterator.Search.{find_from_yields_List}
use Rattle.std.proofs.lemmas.Iterator.Adapters.{YieldsList-from_rev_slice}
use Rattle.journal.proofs.Back.{shows, found_back}
use Rattle.journal.proofs.shown.Goals as goal

pub returns : goal.returns
returns c =
    let h =
    find_from_yields_List (shows c.args.place c.args.until) _ _ c.find.result c.find.ensures.ran (YieldsList-from_rev_slice c.args.entries.now cc)
    (λ x b q k. search (rules, tests)) in
    found_back c.args.place c.args.until c.args.entries.now c.map.result c.requires (search (rules, h))
