-- How record and journal stand to the book, and that every call keeps them so. Assumes nothing.
use Prim.Native.Nat.{ℕ}
use mathlib.Core.Path.{◌≡◌, refl, sym, ap, ◌∙◌}
use mathlib.Core.Bool.{false}
use mathlib.Core.Logic.{◌≢◌}
use mathlib.Core.List.{List}
use lib.ListN.{length}
use Rattle.std.specs.Prelude.{Err}
use Rattle.answers.specs.declared.Refusal.TheVariants.{Damaged}
use Rattle.registration.specs.declared.Registration.{Registration}
use Rattle.registration.specs.Damage.{is_damaged}
use Rattle.journal.specs.Stored.{entries}
use Rattle.group.specs.Group.{Group}
use Rattle.service.specs.Call.{Call, After, refused}
use Rattle.service.specs.Calls.{step}
use Rattle.service.specs.Record.{fresh_service, group_of}
use Rattle.demand3.specs.Book.{Book, new_book, book_after}
use Rattle.demand3.specs.Demand3.{RecordAndJournal, look, next, RightByBook}
use Rattle.demand3.proofs.Related.{Related, related_fresh}
use Rattle.demand3.proofs.Later.{later_after}
use Rattle.demand3.proofs.OneCall.{Fine, fine}
use Rattle.service.proofs.ReadAgain.{through}

-- the group that record and journal hold
abbrev pub group_at : RecordAndJournal → Group
group_at both = group_of both.service both.journal

-- what a call leaves of that group
abbrev pub after_of : RecordAndJournal → Call → After
after_of both call = step both.service.state.last (group_at both) call

-- they stand to the book as their group does to its page, under one last stamp; the book has the registration that it started with
pub record Joint (r : Registration) (both : RecordAndJournal) (book : Book) : Type 0 where
  pub last_same : book.last ≡ both.service.state.last
  pub related : Related book.last (group_at both) book.page
  pub registration : book.page.registration ≡ r

-- so they do at the start
pub joint_fresh : (r : Registration) (journal : List ℕ) → is_damaged r ≡ false → Joint r (record { service = fresh_service r; journal = journal }) (new_book r)
unfolding entries
joint_fresh r journal h = record { last_same = refl; related = related_fresh r (length journal) h; registration = refl }

-- what is seen of a call on record and journal is what is seen of it on their group
pub seen_at : (both : RecordAndJournal) (call : Call) → look both call ≡ (after_of both call).seen
seen_at both call = (through both.service both.journal call).seen

module _ (r : Registration) (both : RecordAndJournal) (book : Book) (joint : Joint r both book) (call : Call) where
  -- each call on the group is right, and leaves it related
  fine_at : Fine book call (after_of both call)
  fine_at = rw (← joint.last_same) (fine book (group_at both) joint.related call)

  -- an accepted call on record and journal is right by the book
  pub right_at : refused (look both call) ≡ false → RightByBook book call (look both call)
  right_at e = rw (seen_at both call) (fine_at.right (ap refused (sym (seen_at both call)) ∙ e))

  -- after any call they stand so to the book after it
  pub joint_at : Joint r (next both call) (book_after book call (refused (look both call)))
  joint_at =
      let t = through both.service both.journal call in
      record {
        last_same = rw (t.seen, t.last) (sym fine_at.last_same);
        related = rw (t.seen, t.group, ← fine_at.last_same) fine_at.related;
        registration = (later_after book call (refused (look both call))).registration ∙ joint.registration;
      }

  -- no call is refused by 15
  pub undamaged_at : (look both call).verdict ≢ Err Damaged
  undamaged_at = rw (seen_at both call) fine_at.undamaged
