-- One entry of a pass: a law for each way through the code. Assumes nothing.
use Prim.Native.Nat.{ℕ, ◌+◌, ◌*◌, ◌-◌, ◌≤◌, ◌<◌}
use mathlib.Core.Path.{◌≡◌}
use mathlib.Core.Bool.{true, false, cond, ◌||◌}
use mathlib.Core.List.{List}
use native.Mathlib.Omega.{arith}
use lib.Dec.{leb, eqb}
use lib.ListN.{set}
use borrow.Author.Tests.{eqb-true, eqb-false, le-leb, lt-leb, ne_eqb}
use Rattle.std.specs.Prelude.{Option, Some}
use Rattle.lists.proofs.Cases.{by_test}
use Rattle.journal.specs.declared.Entry.{Entry}
use Rattle.journal_clear.specs.Marks.{key_of, window, is_less}
use Rattle.journal_clear.specs.Seen.{has_seen, Saw, within, shows, Turned}
use Rattle.journal_clear.proofs.Windows.{in_window, below_window, above_window}

module _ (points lo P : ℕ) (e : Entry) (i : ℕ) (j seen : List ℕ) (next : Option ℕ) where
  -- the entry's key
  abbrev p : ℕ
  p = key_of points e.place

  -- a key outside the window is none of the table's
  outside : ((k : ℕ) → k < window → p ≡ lo + k → ⊥) → (k : ℕ) → k < window → has_seen seen k ≡ (shows points (lo + k) P e || has_seen seen k)
  outside n k h = rw (ne_eqb p (lo + k) (n k h))

  pub before : p < lo → Turned points lo P e i j seen next j seen next
  before h =
      record {
        journal = rw (below_window lo (lo + window) p h);
        least = rw (lt-leb (lo + window) p (omega arith));
        table = outside (λ k l q. omega arith);
      }

  pub beyond : lo ≤ p → window ≤ p - lo → Turned points lo P e i j seen next j seen (cond (is_less p next) (Some p) next)
  beyond l h =
      record {
        journal = rw (above_window lo (lo + window) p (omega arith));
        least = rw (le-leb (lo + window) p (omega arith));
        table = outside (λ k m q. omega arith);
      }

  module _ (l : lo ≤ p) (h : p - lo < window) where
    inside : within lo (lo + window) p ≡ true
    inside = in_window lo (lo + window) p l (omega arith)

    no_next : leb (lo + window) p ≡ false
    no_next = lt-leb (lo + window) p (omega arith)

    pub late : P < e.stamp → Turned points lo P e i j seen next j seen next
    late t =
        record {
          journal = rw (inside, lt-leb e.stamp P t);
          least = rw no_next;
          table = λ k m. by_test (eqb p (lo + k)) (λ q. rw (q, lt-leb e.stamp P t)) (λ q. rw q);
        }

    module _ (t : e.stamp ≤ P) where
      within_time : leb e.stamp P ≡ true
      within_time = le-leb e.stamp P t

      pub seen_again_lem : has_seen seen (p - lo) ≡ true → Turned points lo P e i j seen next (set j (3 * i) 0) seen next
      seen_again_lem s =
          record {
            journal = rw (inside, within_time, s);
            least = rw no_next;
            table = λ k m.
                by_test (eqb p (lo + k))
                (λ q. let r : k ≡ p - lo = omega (arith, eqb-true p (lo + k) q) in rw (q, within_time, r) s)
                (λ q. rw q);
          }

      pub seen_now : (seen' : List ℕ) → has_seen seen (p - lo) ≡ false → Saw seen (p - lo) seen' → Turned points lo P e i j seen next j seen' next
      seen_now seen' s w =
          record {
            journal = rw (inside, within_time, s);
            least = rw no_next;
            table = λ k m.
                by_test (eqb p (lo + k))
                (λ q. let r : k ≡ p - lo = omega (arith, eqb-true p (lo + k) q) in rw (q, within_time, r) w.now)
                (λ q. rw q (w.others k (λ r. eqb-false p (lo + k) q (omega arith))));
          }
