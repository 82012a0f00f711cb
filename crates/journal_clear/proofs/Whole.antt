-- The marks, the moving and the zeros together leave what a clear leaves. Assumes nothing.
use Prim.Native.Nat.{ℕ, ◌+◌, ◌*◌, ◌-◌, ◌≤◌}
use mathlib.Core.Path.{◌≡◌, ap, ◌∙◌}
use mathlib.Core.List.{List, [], ◌++◌, append_assoc, append-nil}
use native.Mathlib.Omega.{arith}
use lib.ListN.{length, take, drop, replicate}
use lib.Seq.{drop-drop, length-take-le}
use borrow.Rule.Slice.PartMut.{put_mid}
use Rattle.std.proofs.lemmas.List.{drop_all}
use Rattle.lists.specs.Those.{those}
use Rattle.journal.specs.declared.Entry.{Entry}
use Rattle.journal.specs.Entries.{keep}
use Rattle.journal.specs.Stored.{entries, flat, written}
use Rattle.journal.specs.Damage.{RightFor}
use Rattle.journal.proofs.Stored.{length_flat, entries_take}
use Rattle.journal_clear.specs.Cleared.{JournalCleared}
use Rattle.journal_clear.specs.Marks.{is_left, Marked, Compacted}
use Rattle.journal_clear.proofs.Windows.{bounded}
use Rattle.journal_clear.proofs.Superseded.{left_kept}

-- numbers of `count` entries, once those at the front are known and the numbers behind them are 0
module _ (j zeros : List ℕ) (es : List Entry) (count kept : ℕ) (front : take (3 * kept) j ≡ flat es) (few : kept ≤ count) (size : length j ≡ 3 * count) where
  number : kept ≡ length es
  number =
      let l : length (take (3 * kept) j) ≡ 3 * kept = length-take-le _ _ (omega arith) in
      omega (arith, length_flat es, ap length front)

  whole : (first : List ℕ) → zeros ≡ replicate (length j - 3 * kept) 0
      → take (3 * kept) j ++ (zeros ++ drop (3 * count) first) ≡ written es (count - length es) first
  unfolding written
  whole first z =
      let l : length j - 3 * kept ≡ 3 * (count - length es) = omega (arith, number) in
      let n : 3 * (length es + (count - length es)) ≡ 3 * count = omega (arith, number) in
      rw (z, l, front, n)

-- the numbers behind a place, once others stand there, with a list behind them
pub cut : (j others tail : List ℕ) (n : ℕ) → n ≤ length j → put_mid n (length j - n) j others ++ tail ≡ take n j ++ (others ++ tail)
cut j others tail n h =
    let none : drop (length j - n) (drop n j) ≡ [] = drop-drop (length j - n) n j ∙ drop_all (n + (length j - n)) j (omega arith) in
    rw (none, append-nil others) (append_assoc (take n j) others tail)

-- the numbers at first, after the marks and after the moving
pub cleared : (points K P count kept : ℕ) (first marked moved zeros : List ℕ) → 3 * count ≤ length first → RightFor points (entries count first)
    → Marked P count (take (3 * count) first) marked → length moved ≡ 3 * count
    → Compacted K count marked moved kept
    → zeros ≡ replicate (length moved - 3 * kept) 0
    → JournalCleared K P count first (take (3 * kept) moved ++ (zeros ++ drop (3 * count) first)) kept
cleared points K P count kept first marked moved zeros h r m l c z =
    let es = keep K P (entries count first) in
    let same : entries count (take (3 * count) first) ≡ entries count first = entries_take count first h in
    let marks : Marked P count first marked = rw same at m in
    let front : take (3 * kept) moved ≡ flat es =
    c.front ∙ ap (λ (l : List Entry). flat (those (is_left K) l)) marks ∙ ap flat (left_kept K P (entries count first) (λ e m. (bounded points (entries count first) r e m).0))
    in
    record {
      number = number moved zeros es count kept front c.few l;
      journal = whole moved zeros es count kept front c.few l first z;
    }
