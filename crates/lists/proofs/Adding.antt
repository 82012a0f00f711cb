-- What is put on a page one after the other, also by a loop, and what a list holds once it was lent to a page. Assumes nothing.
use Prim.Native.Nat.{ℕ, ◌+◌, ◌≤◌, ◌<◌}
use mathlib.Core.Path.{◌≡◌, refl, ◌∙◌}
use mathlib.Core.List.{List, [], ◌++◌}
use native.Mathlib.Nat.{add-zero, le_antisymm}
use native.Mathlib.Numerals.{add-one}
use native.Mathlib.Omega.{arith}
use lib.ListN.{length, length-append, take-append-drop}
use Rattle.lists.specs.declared.Page.{Page}
use Rattle.lists.specs.Place.{placed, Put}
use Rattle.lists.specs.Pages.{Added}
use Rattle.lists.specs.Tables.{joined}
use Rattle.lists.proofs.TableLaws.{joined_suc}
use Rattle.lists.proofs.Pieces.{put_on, joined_less}

module _ {A : Type 0} where
  -- nothing is put
  pub added_none : {page : Page A} → page.end ≤ length page.space.now → Added [] page page
  unfolding placed
  added_none {page} h =
      record {
        room = rw add-zero h;
        put = record { list = rw (add-zero, take-append-drop); end = rw add-zero };
        same_length = refl;
        same_space = refl;
      }

  -- a part and then another
  pub added_then : {first second : List A} {before between after : Page A}
      → Added first before between → Added second between after → Added (first ++ second) before after
  added_then {first} {second} {before} {between} {after} p q =
      record {
        room = rw length-append (omega (arith, p.room, q.room, p.put.end, p.same_length));
        put = put_on (omega (arith, q.room, p.same_length)) p.put q.put;
        same_length = q.same_length ∙ p.same_length;
        same_space = q.same_space ∙ p.same_space;
      }

  -- a list that was lent to a page holds in the end what was put on the page
  pub lent_put : {elements after : List A} {before page : Page A} → Added elements before page → after ≡ page.space.now
      → Put before.end elements before.space.now after page.end
  lent_put p e = rw e p.put

-- a loop that puts one piece a turn
module _ (piece : ℕ → List ℕ) where
  -- before the first
  pub no_piece : {before : Page ℕ} → before.end ≤ length before.space.now → Added (joined piece 0) before before
  unfolding joined
  no_piece h = added_none h

  module _ {before page : Page ℕ} {i : ℕ} (p : Added (joined piece i) before page) where
    -- the next one has room where all of them have
    pub piece_fits : (count : ℕ) → i < count → before.end + length (joined piece count) ≤ length before.space.now
        → page.end + length (piece i) ≤ length page.space.now
    piece_fits count h room = omega (arith, joined_less piece i count h, p.put.end, p.same_length)

    -- after it
    pub piece_more : {after : Page ℕ} → Added (piece i) page after → Added (joined piece (i + 1)) before after
    piece_more q = rw (add-one, joined_suc) (added_then p q)

    -- and after all of them
    pub all_pieces : {count : ℕ} → i ≤ count → count ≤ i → Added (joined piece count) before page
    all_pieces h l = rw (← le_antisymm h l) p
