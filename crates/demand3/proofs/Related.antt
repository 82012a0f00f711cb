-- How a group stands to its page of the book, under a last stamp that both share. Assumes nothing.
use Prim.Native.Nat.{ℕ, ◌≤◌}
use native.Mathlib.Omega.{arith}
use mathlib.Core.Path.{◌≡◌, refl}
use mathlib.Core.Bool.{false}
use mathlib.Core.List.{[]}
use Rattle.calendar.specs.Dates.{last_day}
use Rattle.registration.specs.declared.Registration.{Registration}
use Rattle.values.specs.declared.Measurement.{Measurement}
use Rattle.registration.specs.Damage.{is_damaged}
use Rattle.journal.specs.Readings.{shown}
use Rattle.journal.specs.Damage.{entries_right}
use Rattle.journal.proofs.ShownLaws.{Under, shown_all}
use Rattle.group.specs.Group.{Group, readings_of}
use Rattle.demand3.specs.Book.{Page, new_book, noted, newest_noted}
use Rattle.group.proofs.Sound.{Sound}

-- a quarter hour and a stamp that are not cleared
pub record Open (G : Group) (day quarter T : ℕ) : Type 0 where
  pub kept : G.keptday ≤ day
  pub day_most : day ≤ last_day
  pub from : 1 ≤ quarter
  pub to : quarter ≤ 100
  pub stamp : G.keptstamp ≤ T

-- the group is sound; what is not cleared shows the same in journal and book; no reading noted is later than the last stamp; one registration
pub record Related (last : ℕ) (G : Group) (page : Page) : Type 0 where
  pub sound : Sound last G
  pub shows : (code day quarter T : ℕ) → Open G day quarter T → shown T (readings_of G code day quarter) ≡ shown T (noted page code day quarter)
  pub within_time : (code day quarter T : ℕ) → last ≤ T → Under T (noted page code day quarter)
  pub registration : G.registration ≡ page.registration

-- the group of a fresh service: no entries, P = 0, K = 0
abbrev fresh_group : Registration → (room : ℕ) → Group
fresh_group r room =
    record {
      registration = r;
      keptstamp = 0;
      keptday = 0;
      entries = [];
      room = room;
    }

-- it stands so to a new book
pub related_fresh : (r : Registration) (room : ℕ) → is_damaged r ≡ false → Related 0 (fresh_group r room) (new_book r).page
unfolding entries_right
related_fresh r room h =
    record {
      sound = record {
        registered = h;
        kept_stamp = omega arith;
        last_stamp = omega arith;
        kept_day = omega arith;
        fits = omega arith;
        right = refl;
      };
      shows = λ code day quarter T o. refl;
      within_time = λ code day quarter T l. tt;
      registration = refl;
    }

-- the newest reading noted is the one shown at the last stamp
pub newest_shown : (last : ℕ) (G : Group) (page : Page) → Related last G page → (m : Measurement)
    → shown last (noted page m.code m.day m.quarter) ≡ newest_noted page m
newest_shown last G page rel m =
    shown_all last (noted page m.code m.day m.quarter) (rel.within_time m.code m.day m.quarter last (omega arith))
