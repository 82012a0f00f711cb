-- An accepted evaluation gives the book's result. Assumes nothing.
use Prim.Native.Nat.{ℕ}
use native.Mathlib.Omega.{arith}
use mathlib.Core.Path.{◌≡◌, refl}
use mathlib.Core.List.{List}
use Rattle.calendar.proofs.Laws.{exists_day}
use Rattle.evaluation.specs.Evaluation.{evaluation_of}
use Rattle.evaluation.proofs.Laws.{evaluation_lengths, parts_stand}
use Rattle.evaluation.proofs.Alike.{evaluation_alike}
use Rattle.group.specs.Group.{Group, readings_of}
use Rattle.service.specs.Calls.{evaluated}
use Rattle.demand3.specs.Book.{Book, noted, book_result}
use Rattle.demand3.specs.Demand3.{Gives}
use Rattle.group.proofs.Admitted.{Evaluating}
use Rattle.group.proofs.Laws.{weeks_kept}
use Rattle.demand3.proofs.Related.{Related}

module _ (last : ℕ) (G : Group) (day quarter T : ℕ) (lent : List ℕ) (book : Book) (rel : Related last G book.page) (a : Evaluating last G day quarter T lent) where
  -- journal and book show the same in the four weeks, so the results are the same
  same_result : evaluation_of G.registration (readings_of G) day quarter T ≡ book_result book day quarter T
  unfolding book_result
  same_result =
      rw (← rel.registration) (evaluation_alike day quarter T a.exists G.registration (readings_of G) (noted book.page)
      (λ code slot w. rel.shows code slot.day slot.quarter T (record {
        kept = weeks_kept G.keptday day slot.day a.not_cleared w.near;
        day_most = omega (arith, w.before, exists_day day quarter a.exists);
        from = w.from;
        to = w.to;
        stamp = a.from;
      })))

  -- the list lent and the number returned give it
  pub evaluation_right : Gives book.page.registration (book_result book day quarter T) (evaluated last G day quarter T lent).seen
  unfolding evaluated
  evaluation_right =
      let r = G.registration in
      let result = evaluation_of r (readings_of G) day quarter T in
      rw (← same_result, ← rel.registration)
      (record {
        parts = λ part. parts_stand r result (evaluation_lengths r (readings_of G) day quarter T) lent part;
        rounds = refl;
      })
