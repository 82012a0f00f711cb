-- `changeovers::put_lines` meets its contract: the lines passed have been put, and all of them fill the buffer. Assumes nothing.
use native.Mathlib.Omega.{arith}
use borrow.Author.Rules.{rules}
use Rattle.lists.proofs.PlaceLaws.{put_whole}
use Rattle.lists.proofs.Adding.{lent_put, no_piece, piece_fits, piece_more, all_pieces}
use Rattle.calendar.specs.Changeovers.{changeover_count, changeovers}
use Rattle.changeovers.specs.Text.{changeover_line}
use Rattle.changeovers.proofs.Lengths.{length_line, length_text}
use Rattle.changeovers.proofs.put_lines.Goals as goal

pub loop-day-init : goal.loop-day-init
loop-day-init c = no_piece changeover_line (omega arith)

pub put_line-requires : goal.put_line-requires
put_line-requires c = rw length_line at (piece_fits changeover_line c.loop-day.invariant changeover_count (omega arith) (omega (arith, length_text)))

pub loop-day-preserved : goal.loop-day-preserved
unfolding changeovers
loop-day-preserved c = piece_more changeover_line c.loop-day.invariant (rw c.from.ensures at c.put_line.ensures)

pub returns : goal.returns
returns c = put_whole (omega (arith, length_text, c.requires)) (lent_put (all_pieces changeover_line c.loop-day.invariant (omega arith) (omega arith)) (search rules))
