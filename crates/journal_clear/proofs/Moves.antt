-- Entries moved to the front: one turn of the moving. Assumes nothing.
use Prim.Native.Nat.{ℕ, zero, suc, ◌+◌, ◌*◌, ◌≤◌, ◌<◌}
use mathlib.Core.Path.{◌≡◌, refl, sym, ◌∙◌}
use mathlib.Core.Bool.{true, false}
use mathlib.Core.List.{List, [], ◌∷◌, ◌++◌, append_assoc, append-nil}
use native.Mathlib.Omega.{arith}
use lib.ListN.{length, take, get_or}
use Rattle.std.specs.Simd.{first_chunks}
use Rattle.lists.specs.Place.{placed}
use Rattle.lists.proofs.PlaceLaws.{take_placed, drop_placed}
use Rattle.lists.specs.Those.{those}
use Rattle.journal.specs.Stored.{entries, entry_at, entry_in, numbers, flat}
use Rattle.journal.proofs.Stored.{rest, rest_step, rest_end}
use Rattle.journal_clear.specs.Marks.{is_left, Compacted}

-- the entry of the array number i that the numbers are read as
pub chunk_entry : (n i : ℕ) (j : List ℕ) → i < n → 3 * n ≤ length j → entry_in (get_or (first_chunks 3 n j) i []) ≡ entry_at j i
chunk_entry zero i j l h = absurd (omega arith)
chunk_entry (suc n) i [] l h = absurd (omega arith)
chunk_entry (suc n) i (a ∷ []) l h = absurd (omega arith)
chunk_entry (suc n) i (a ∷ b ∷ []) l h = absurd (omega arith)
chunk_entry (suc n) zero (a ∷ b ∷ c ∷ j) l h = refl
chunk_entry (suc n) (suc i) (a ∷ b ∷ c ∷ j) l h =
    let first : 3 * suc i ≡ suc (suc (suc (3 * i))) = omega arith in
    let second : 3 * suc i + 1 ≡ suc (suc (suc (3 * i + 1))) = omega arith in
    let third : 3 * suc i + 2 ≡ suc (suc (suc (3 * i + 2))) = omega arith in
    rw (second, third, first) (chunk_entry n i j (omega arith) (omega arith))

module _ (K count : ℕ) where
  -- the entries at the front, and those that have still to move
  abbrev moved_and_left : List ℕ → ℕ → ℕ → List ℕ
  moved_and_left j kept i = take (3 * kept) j ++ flat (those (is_left K) (rest j count i))

  -- the journal at first and now, once i entries are passed
  pub record Moving (first j : List ℕ) (kept i : ℕ) : Type 0 where
    pub behind : kept ≤ i
    pub ahead : i ≤ count
    pub same_length : length j ≡ length first
    pub fits : 3 * count ≤ length j
    pub done : moved_and_left j kept i ≡ flat (those (is_left K) (entries count first))

  pub finish : (first j : List ℕ) (kept i : ℕ) → count ≤ i → Moving first j kept i → Compacted K count first j kept
  unfolding flat
  finish first j kept i h g =
      let e : i ≡ count = omega (arith, g.ahead) in
      record {
        front = sym (rw (e, rest_end, append-nil)) ∙ g.done;
        few = omega (arith, g.behind);
      }

  module _ (first j after : List ℕ) (kept kept' i : ℕ) (g : Moving first j kept i) (h : i < count) where
    pub passed_over : is_left K (entry_at j i) ≡ false → after ≡ j → kept' ≡ kept → Moving first after kept' (i + 1)
    passed_over e ej ek =
        let step : moved_and_left j kept i ≡ moved_and_left j kept (i + 1) = rw (rest_step j count i h, e) in
        rw (ej, ek)
        (record {
          behind = omega (arith, g.behind);
          ahead = omega arith;
          same_length = g.same_length;
          fits = g.fits;
          done = sym step ∙ g.done;
        })

    pub moved_one : is_left K (entry_at j i) ≡ true → length after ≡ length j → after ≡ placed (3 * kept) (numbers (entry_at j i)) j → kept' ≡ kept + 1
        → Moving first after kept' (i + 1)
    unfolding flat
    moved_one e l ej ek =
        let put = numbers (entry_at j i) in
        let room : 3 * kept + 3 ≤ length j = omega (arith, g.behind, g.fits) in
        let n : 3 * (kept + 1) ≡ 3 * kept + 3 = omega arith in
        let step : moved_and_left j kept i ≡ moved_and_left (placed (3 * kept) put j) (kept + 1) (i + 1) =
        rw (rest_step j count i h, e, n, take_placed (3 * kept) put j room, drop_placed (3 * kept) put j room (3 * (i + 1)) (omega (arith, g.behind)), append_assoc)
        in
        record {
          behind = omega (arith, g.behind);
          ahead = omega arith;
          same_length = l ∙ g.same_length;
          fits = omega (arith, g.fits);
          done = rw (ej, ek) (sym step ∙ g.done);
        }
