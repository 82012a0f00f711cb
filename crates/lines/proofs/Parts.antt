-- A line by its parts: its frame, and the columns in it one after the other. Assumes nothing.
use Prim.Native.Nat.{ℕ, ◌+◌, ◌-◌, ◌≤◌, ◌<◌}
use mathlib.Core.Path.{◌≡◌, refl, ap, ◌∙◌}
use mathlib.Core.Bool.{true, false}
use mathlib.Core.List.{List, [], ◌∷◌, ◌++◌, append_assoc, append-nil}
use Rattle.std.specs.Prelude.{Option, None, Some}
use Rattle.std.specs.Option.{option_map}
use Rattle.std.proofs.lemmas.List.{drop_more, drop_all, take_rest}
use native.Mathlib.Omega.{arith}
use borrow.Author.Tests.{eqb-true}
use lib.Dec.{eqb}
use lib.ListN.{length, get_or, take, drop, length-drop}
use lib.Seq.{take_all}
use Rattle.columns.specs.Column.{number_in}
use Rattle.columns.specs.Fields.{total, with_first, numbers_in}
use Rattle.columns.proofs.Laws.{numbers_in_nil, numbers_in_cons}
use Rattle.lists.proofs.Below.{both}
use Rattle.lines.specs.Lines.{is_framed, line_in}

-- a part from a place up to the end
pub tail_part : (bytes : List ℕ) (at : ℕ) → take (length bytes - at) (drop at bytes) ≡ drop at bytes
tail_part = take_rest

-- ---- the frame

module _ (letter size : ℕ) (line : List ℕ) where
  pub framed_length : is_framed letter size line ≡ true → length line ≡ size + 2
  framed_length e = eqb-true _ _ (both (eqb (length line) (size + 2)) _ (both _ (eqb (get_or line (size + 1) 0) 10) e).0).0

  -- so many bytes, and more, stand after the letter
  pub framed_rest : is_framed letter size line ≡ true → size ≤ length (take (length line - 1) (drop 1 line))
  framed_rest e = rw (tail_part line 1) (omega (arith, length-drop 1 line, framed_length e))

module _ (letter size : ℕ) (widths line : List ℕ) (sized : total widths ≡ size) where
  pub in_frame : is_framed letter size line ≡ true → numbers_in widths (take (length line - 1) (drop 1 line)) ≡ line_in letter widths line
  unfolding line_in
  in_frame e = rw (sized, e, tail_part line 1)

  pub out_of_frame : is_framed letter size line ≡ false → None ≡ line_in letter widths line
  unfolding line_in
  out_of_frame e = rw (sized, e)

-- ---- the columns of a list of widths, one after the other

-- the numbers read so far, before those that are still to be read
abbrev pub after_these : List ℕ → Option (List ℕ) → Option (List ℕ)
after_these ns = option_map (λ ms. ns ++ ms)

module _ (ws rest : List ℕ) (i : ℕ) (h : i < length ws) where
  pub next_width : total (drop i ws) ≡ get_or ws i 0 + total (drop (i + 1) ws)
  next_width = ap total (drop_more ws i 0 h)

  next_number : numbers_in (drop i ws) rest ≡ with_first (number_in (take (get_or ws i 0) rest)) (numbers_in (drop (i + 1) ws) (drop (get_or ws i 0) rest))
  next_number = ap (λ (vs : List ℕ). numbers_in vs rest) (drop_more ws i 0 h) ∙ numbers_in_cons (get_or ws i 0) (drop (i + 1) ws) rest

  pub next_refused : (ns : List ℕ) → number_in (take (get_or ws i 0) rest) ≡ None → after_these ns (numbers_in (drop i ws) rest) ≡ None
  next_refused ns e = rw (next_number, e)

  pub next_read : (ns : List ℕ) (n : ℕ) → number_in (take (get_or ws i 0) rest) ≡ Some n
      → after_these ns (numbers_in (drop i ws) rest) ≡ after_these (ns ++ (n ∷ [])) (numbers_in (drop (i + 1) ws) (drop (get_or ws i 0) rest))
  next_read ns n e = rw (next_number, e) (go (numbers_in (drop (i + 1) ws) (drop (get_or ws i 0) rest)))
    where
      go : (o : Option (List ℕ)) → after_these ns (with_first (Some n) o) ≡ after_these (ns ++ (n ∷ [])) o
      go None = refl
      go (Some ms) = rw append_assoc

-- where every column has been read
pub all_read : (ws rest ns : List ℕ) (i : ℕ) → length ws ≤ i → length ns ≡ length ws → after_these (take i ns) (numbers_in (drop i ws) rest) ≡ Some ns
all_read ws rest ns i h e =
    let n : length ns ≤ i = omega arith in
    let none : drop i ws ≡ [] = drop_all i ws h in
    rw (none, take_all i ns n, numbers_in_nil, append-nil)
