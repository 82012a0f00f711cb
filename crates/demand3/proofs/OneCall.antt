-- One call on one group: right by the book, and related to it afterwards. Assumes nothing.
use Prim.Native.Nat.{ℕ, ◌≤◌}
use native.Mathlib.Omega.{arith}
use mathlib.Core.Path.{◌≡◌, refl}
use mathlib.Core.Bool.{true, false, true≢false}
use mathlib.Core.Logic.{◌≢◌}
use mathlib.Core.List.{List, []}
use Rattle.values.specs.declared.Measurement.{Measurement}
use Rattle.answers.specs.Numbers.{Verdict}
use Rattle.std.specs.Prelude.{Ok, Err}
use Rattle.answers.specs.declared.Refusal.TheVariants.{Damaged}
use Rattle.calendar.specs.Quarters.{quarter_exists}
use Rattle.group.specs.Group.{Group}
use Rattle.service.specs.Call.{Call, Submission, Clear, Evaluation, After, refused}
use Rattle.group.specs.Refusals.{damaged, submission_verdict, clear_verdict, evaluation_verdict}
use Rattle.service.specs.Calls.{submitted, cleared, evaluated, when_accepted, step}
use Rattle.demand3.specs.Book.{Book, book_after}
use Rattle.demand3.specs.Demand3.{RightByBook}
use Rattle.group.proofs.Sound.{undamaged}
use Rattle.demand3.proofs.Related.{Related}
use Rattle.service.proofs.Accepted.{accepted_verdict, submitted_accepted}
use Rattle.group.proofs.Admitted.{admitted, clearing, evaluating}
use Rattle.demand3.proofs.NeverDamaged.{submission_not_15, clear_not_15, evaluation_not_15}
use Rattle.demand3.proofs.Submissions.{submission_right}
use Rattle.demand3.proofs.Clearings.{clear_right}
use Rattle.demand3.proofs.Evaluations.{evaluation_right}

-- what is to be shown of a call: right if accepted; the book's last stamp; related to the book after it; not refused by 15
pub record Fine (book : Book) (call : Call) (after : After) : Type 0 where
  pub right : refused after.seen ≡ false → RightByBook book call after.seen
  pub last_same : after.last ≡ (book_after book call (refused after.seen)).last
  pub related : Related after.last after.group (book_after book call (refused after.seen)).page
  pub undamaged : after.seen.verdict ≢ Err Damaged

-- a refused call leaves group and book as they were
fine_when_accepted : (book : Book) (G : Group) (call : Call) (lent : List ℕ) (verdict : Verdict) (after : After) → Related book.last G book.page
    → verdict ≢ Err Damaged → (verdict ≡ Ok tt → Fine book call after) → Fine book call (when_accepted verdict book.last G lent after)
unfolding book_after
fine_when_accepted book G call lent (Ok _) after rel h f = f refl
fine_when_accepted book G call lent (Err refusal) after rel h f =
    record { right = λ e. absurd (true≢false e); last_same = refl; related = rel; undamaged = h }

module _ (book : Book) (G : Group) (rel : Related book.last G book.page) where
  -- the last stamp
  abbrev last : ℕ
  last = book.last

  -- nothing is damaged
  none : damaged last G ≡ false
  none = undamaged last G rel.sound

  -- an accepted submission, clear and evaluation
  fine_submission : (clock : ℕ) (m : Measurement) → submission_verdict last G clock m ≡ Ok tt
      → Fine book (Submission clock m) (submitted last G clock m)
  unfolding book_after
  fine_submission clock m e =
      let k = submission_right last G clock m book.page rel (admitted last G clock m e) in
      let v = submitted_accepted last G clock m in
      record {
        right = λ a. k.0;
        last_same = rw v k.1;
        related = rw v k.2;
        undamaged = rw v (λ f. let z : ◌≡◌ {A = ℕ} 0 1 = cc in omega arith);
      }

  fine_clear : (day stamp : ℕ) → clear_verdict last G day stamp ≡ Ok tt → Fine book (Clear day stamp) (cleared last G day stamp)
  unfolding book_after cleared
  fine_clear day stamp e =
      record {
        right = λ a. tt;
        last_same = refl;
        related = clear_right last G day stamp book.page rel (clearing last G day stamp e);
        undamaged = λ f. let z : ◌≡◌ {A = ℕ} 0 1 = cc in omega arith;
      }

  fine_evaluation : (day quarter T : ℕ) (lent : List ℕ) → evaluation_verdict last G day quarter T lent ≡ Ok tt
      → Fine book (Evaluation day quarter T lent) (evaluated last G day quarter T lent)
  unfolding book_after evaluated
  fine_evaluation day quarter T lent e =
      record {
        right = λ a. evaluation_right last G day quarter T lent book rel (evaluating last G day quarter T lent e);
        last_same = refl;
        related = rel;
        undamaged = λ f. let z : ◌≡◌ {A = ℕ} 0 1 = cc in omega arith;
      }

  -- every call
  pub fine : (call : Call) → Fine book call (step last G call)
  unfolding step
  fine (Submission clock m) =
      fine_when_accepted book G _ [] _ _ rel (submission_not_15 last G none clock m) (fine_submission clock m)
  fine (Clear day stamp) = fine_when_accepted book G _ [] _ _ rel (clear_not_15 last G none day stamp) (fine_clear day stamp)
  fine (Evaluation day quarter T lent) =
      fine_when_accepted book G _ lent _ _ rel (evaluation_not_15 last G none day quarter T lent) (fine_evaluation day quarter T lent)

-- an accepted evaluation is of a quarter hour that exists, as of a stamp up to the last
pub reached : (last : ℕ) (G : Group) (day quarter T : ℕ) (lent : List ℕ)
    → refused (step last G (Evaluation day quarter T lent)).seen ≡ false → (quarter_exists day quarter ≡ true) × (T ≤ last)
unfolding step
reached last G day quarter T lent e =
    let k = evaluating last G day quarter T lent (accepted_verdict _ last G lent _ e) in
    (k.exists, k.to)
