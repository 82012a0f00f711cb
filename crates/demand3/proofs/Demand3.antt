-- Demand 3: the theorem about lists of calls, at the calls on record and journal. Assumes nothing.
use Prim.Native.Nat.{ℕ, ◌≤◌}
use native.Mathlib.Omega.{arith}
use mathlib.Core.Path.{◌≡◌, refl, sym, ap, subst, ◌∙◌}
use mathlib.Core.Bool.{true, false}
use mathlib.Core.Logic.{◌≢◌}
use mathlib.Core.List.{List}
use Rattle.std.specs.Prelude.{Err}
use Rattle.answers.specs.declared.Refusal.TheVariants.{Damaged}
use Rattle.calendar.specs.Quarters.{quarter_exists}
use Rattle.registration.specs.declared.Registration.{Registration}
use Rattle.registration.specs.Damage.{is_damaged}
use Rattle.evaluation.specs.Evaluation.{Result}
use Rattle.service.specs.Call.{Call, Evaluation, Seen, refused}
use Rattle.service.specs.Record.{fresh_service}
use Rattle.demand3.specs.Book.{Book, new_book, book_after, book_result}
use Rattle.demand3.specs.Lists.{Made}
use Rattle.demand3.specs.Demand3.{RecordAndJournal, look, next, seen_of, Gives, RightByBook, SameResult, Demand3Holds}
use Rattle.demand3.proofs.Later.{later_after, later_result}
use Rattle.demand3.proofs.OneCall.{reached}
use Rattle.demand3.proofs.Joint.{group_at, after_of, Joint, joint_fresh, seen_at, right_at, joint_at, undamaged_at}
use Rattle.demand3.proofs.Lists

-- the evaluations of one day, quarter and T
module _ (r : Registration) (day quarter T : ℕ) where
  -- a call is one of them
  record Asks (call : Call) : Type 0 where
    lent : List ℕ
    is : call ≡ Evaluation day quarter T lent

  -- the book has reached T
  record Reached (book : Book) : Type 0 where
    exists : quarter_exists day quarter ≡ true
    stamp : T ≤ book.last
    registration : book.page.registration ≡ r

  -- what is right of one of them is that it gives the book's result
  gives_right : (book : Book) → Reached book → (call : Call) (a : Seen) → Asks call → RightByBook book call a → Gives r (book_result book day quarter T) a
  gives_right book l call a k right =
      let g : RightByBook book (Evaluation day quarter T k.lent) a = rw k.is at right in
      subst (λ (x : Registration). Gives x (book_result book day quarter T) a) l.registration g

  -- where one of them is accepted, the book has reached T
  asked : (both : RecordAndJournal) (book : Book) → Joint r both book → (call : Call) → Asks call → refused (look both call) ≡ false → Reached book
  asked both book joint call k e =
      let e' : refused (after_of both call).seen ≡ false = ap refused (sym (seen_at both call)) ∙ e in
      let m = reached both.service.state.last (group_at both) day quarter T k.lent (rw k.is at e') in
      record { exists = m.0; stamp = omega (arith, m.1, joint.last_same); registration = joint.registration }

  -- later calls do not alter that
  stays : (both : RecordAndJournal) (book : Book) → Joint r both book → (call : Call) → Reached book → Reached (book_after book call (refused (look both call)))
  stays both book joint call l =
      let m = later_after book call (refused (look both call)) in
      record { exists = l.exists; stamp = omega (arith, l.stamp, m.rises); registration = m.registration ∙ l.registration }

  -- nor the book's result
  same : (both : RecordAndJournal) (book : Book) → Joint r both book → (call : Call) → Reached book
      → book_result (book_after book call (refused (look both call))) day quarter T ≡ book_result book day quarter T
  same both book joint call l =
      later_result book _ (later_after book call (refused (look both call))) day quarter T l.exists l.stamp

-- any two accepted evaluations of one day, quarter and T give one and the same result
module _ (r : Registration) (h : is_damaged r ≡ false) (journal : List ℕ) (calls : List Call) (i k day quarter T : ℕ) (lent lent' : List ℕ) (a a' : Seen)
    (m : Made calls (seen_of r journal calls) i (Evaluation day quarter T lent) a) (e : refused a ≡ false)
    (m' : Made calls (seen_of r journal calls) k (Evaluation day quarter T lent') a') (e' : refused a' ≡ false) where
  one_result : (result : Result) × Gives r result a × Gives r result a'
  one_result =
      Lists.pairs look next refused book_after RightByBook (Joint r) (right_at r) (joint_at r)
      (Asks r day quarter T) (λ b. book_result b day quarter T) (Gives r) (Reached r day quarter T)
      (gives_right r day quarter T) (asked r day quarter T) (stays r day quarter T) (same r day quarter T)
      calls (record { service = fresh_service r; journal = journal }) (new_book r) (joint_fresh r journal h)
      i k _ _ a a' m (record { lent = lent; is = refl }) e m' (record { lent = lent'; is = refl }) e'

  -- so they are equal in all of it
  same_result : SameResult r a a'
  same_result =
      let g = one_result.1 in
      let g' = one_result.2 in
      record { parts = λ part. g.parts part ∙ sym (g'.parts part); rounds = g.rounds ∙ sym g'.rounds }

-- the claim, from a fresh service and a new book on
pub demand3 : Demand3Holds
demand3 r h journal calls =
    let both : RecordAndJournal = record { service = fresh_service r; journal = journal } in
    let joint : Joint r both (new_book r) = joint_fresh r journal h in
    record {
      each = Lists.all_right look next refused book_after RightByBook (Joint r) (right_at r) (joint_at r) calls both (new_book r) joint;
      pairs = same_result r h journal calls;
      undamaged = Lists.each_call look next refused book_after RightByBook (Joint r) (right_at r) (joint_at r)
          (λ call a. a.verdict ≢ Err Damaged) (undamaged_at r) calls both (new_book r) joint;
    }
