-- An accepted clear: journal and book go on to show the same, for days and stamps not cleared. Assumes nothing.
use Prim.Native.Nat.{ℕ}
use native.Mathlib.Omega.{arith}
use mathlib.Core.Path.{◌∙◌}
use lib.ListN.{length}
use Rattle.journal.proofs.PlaceLaws.{day_in_place}
use Rattle.journal.proofs.Kept.{shown_keep}
use Rattle.journal.proofs.RightEntries.{right_rising}
use Rattle.points.specs.Points.{index_of}
use Rattle.group.specs.Group.{Group, roll_of, place_for}
use Rattle.service.specs.Calls.{cleared}
use Rattle.demand3.specs.Book.{Page}
use Rattle.group.proofs.Admitted.{Clearing}
use Rattle.service.proofs.Staying.{sound_less}
use Rattle.demand3.proofs.Related.{Related}

module _ (last : ℕ) (G : Group) (day stamp : ℕ) (page : Page) (rel : Related last G page) (a : Clearing last G day stamp) where
  -- what is left is related to the same page
  pub clear_right : Related (cleared last G day stamp).last (cleared last G day stamp).group page
  unfolding cleared
  clear_right =
      record {
        sound = sound_less last G day stamp a;
        shows = λ c d q T o.
            shown_keep day stamp T (place_for G c d q) G.entries
            (omega (arith, o.kept, day_in_place (index_of c (roll_of G)) d q o.day_most o.from o.to)) o.stamp
            (right_rising (length (roll_of G)) G.keptday last (place_for G c d q) 0 0 (omega arith) G.entries rel.sound.right)
            ∙ rel.shows c d q T (record {
              kept = omega (arith, o.kept, a.not_cleared);
              day_most = o.day_most;
              from = o.from;
              to = o.to;
              stamp = omega (arith, o.stamp, a.from);
            });
        within_time = rel.within_time;
        registration = rel.registration;
      }
