-- Columns put one after the other, and a line in parts. Assumes nothing.
use Prim.Native.Nat.{ℕ, ◌+◌, ◌≤◌, ◌<◌}
use mathlib.Core.Path.{◌≡◌, sym, ◌∙◌}
use mathlib.Core.Bool.{false}
use mathlib.Core.List.{List, [], ◌∷◌, ◌++◌, append_assoc, append-nil}
use native.Mathlib.Omega.{arith}
use lib.ListN.{length, get_or, take}
use lib.Seq.{length-take-le}
use Rattle.std.proofs.lemmas.List.{take_more}
use Rattle.std.proofs.lemmas.List.Sums.{sum_by_more_le}
use Rattle.lists.specs.declared.Page.{Page}
use Rattle.lists.specs.Pages.{Added}
use Rattle.lists.proofs.Adding.{added_then}
use Rattle.columns.specs.Column.{column_of}
use Rattle.columns.specs.Fields.{total, columns_of}
use Rattle.columns.proofs.Laws.{columns_of_cons, columns_of_nil, columns_append, length_columns, total_sum}
use Rattle.lines.specs.Lines.{line_of}

module _ (ws ns : List ℕ) (same : length ws ≡ length ns) (i : ℕ) (h : i < length ws) where
  as_many : length (take i ws) ≡ length (take i ns)
  as_many = length-take-le i ws (omega arith) ∙ sym (length-take-le i ns (omega arith))

  -- the columns so far and the next one are within all of them
  pub next_fits : length (columns_of (take i ws) (take i ns)) + get_or ws i 0 ≤ total ws
  next_fits =
      let l : length (columns_of (take i ws) (take i ns)) ≡ total (take i ws) = length_columns (take i ws) (take i ns) as_many in
      rw (l, total_sum, total_sum) (sum_by_more_le (λ (w : ℕ). w) ws i 0 h)

  -- one column more
  pub next_put : {before page after : Page ℕ} → Added (columns_of (take i ws) (take i ns)) before page → Added (column_of false (get_or ws i 0) (get_or ns i 0)) page after
      → Added (columns_of (take (i + 1) ws) (take (i + 1) ns)) before after
  next_put p q =
      let one : columns_of (get_or ws i 0 ∷ []) (get_or ns i 0 ∷ []) ≡ column_of false (get_or ws i 0) (get_or ns i 0) = rw (columns_of_cons, columns_of_nil, append-nil) in
      rw (take_more ws i 0 h, take_more ns i 0 (omega arith), columns_append _ _ _ _ as_many, one) (added_then p q)

-- a line whose letter and first columns are put together
pub line_in_parts : (letter : ℕ) (ws ns vs ms : List ℕ) {before first second after : Page ℕ} → length ws ≡ length ns
    → Added (letter ∷ columns_of ws ns) before first → Added (columns_of vs ms) first second → Added (10 ∷ []) second after
    → Added (line_of letter (ws ++ vs) (ns ++ ms)) before after
line_in_parts letter ws ns vs ms e p q r = rw (columns_append ws ns vs ms e, append_assoc) (added_then p (added_then q r))
