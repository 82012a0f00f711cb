-- Where entries stand in a journal, a list of numbers: three numbers an entry, from the front. Assumes nothing.
use Rattle.std.specs.Prelude.{ℕ, zero, suc, ◌+◌, ◌*◌, List, [], ◌∷◌, ◌++◌, map, length, get_or, drop, replicate}
use Rattle.journal.specs.declared.Entry.{Entry}

-- entry number i of a journal, from 0
abbrev pub entry_at : List ℕ → ℕ → Entry
entry_at j i = record { stamp = get_or j (3 * i) 0; place = get_or j (3 * i + 1) 0; stored = get_or j (3 * i + 2) 0 }

-- the entry of three numbers
abbrev pub entry_in : List ℕ → Entry
entry_in numbers = record { stamp = get_or numbers 0 0; place = get_or numbers 1 0; stored = get_or numbers 2 0 }

-- the entries of a list in which each stands as its three numbers
abbrev pub entries_in : List (List ℕ) → List Entry
entries_in lists = map entry_in lists

-- the first n entries of a journal
unfoldable pub entries : ℕ → List ℕ → List Entry
entries zero j = []
entries (suc n) j = entry_at j 0 ∷ entries n (drop 3 j)

-- the three numbers of an entry
abbrev pub numbers : Entry → List ℕ
numbers e = e.stamp ∷ e.place ∷ e.stored ∷ []

-- the numbers of entries, one after the other
unfoldable pub flat : List Entry → List ℕ
flat [] = []
flat (e ∷ es) = numbers e ++ flat es

-- the numbers of so many emptied entries
abbrev pub emptied_numbers : ℕ → List ℕ
emptied_numbers emptied = replicate (3 * emptied) 0

-- a journal that begins with these entries and then has so many emptied ones, whose numbers are 0; later numbers stay
unfoldable pub written : List Entry → ℕ → List ℕ → List ℕ
written es emptied j = flat es ++ (emptied_numbers emptied ++ drop (3 * (length es + emptied)) j)
