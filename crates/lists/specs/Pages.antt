-- What is put on a page: a list that was lent, with the end of what is on it so far. Assumes nothing.
use Rattle.std.specs.Prelude.{ℕ, ◌+◌, ◌≤◌, ◌≡◌, List, length}
use Rattle.lists.specs.declared.Page.{Page}
use Rattle.lists.specs.Place.{Put}

-- a page has room for so many elements more
abbrev pub Room : {A : Type 0} → ℕ → Page A → Type 0
Room more page = page.end + more ≤ length page.space.now

-- a page before and after: the elements had room and have been put at its end, and it is the same list, as long as before
pub record Added {A : Type 0} (elements : List A) (before after : Page A) : Type 0 where
  pub room : Room (length elements) before
  pub put : Put before.end elements before.space.now after.space.now after.end
  pub same_length : length after.space.now ≡ length before.space.now
  pub same_space : after.space.ghost_name ≡ before.space.ghost_name
