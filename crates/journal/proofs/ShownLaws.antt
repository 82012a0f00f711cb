-- Laws of the reading shown: over an append, and under what a clear keeps. Of the order they use its two laws alone. Assumes nothing.
use Prim.Native.Nat.{ℕ, ◌≤◌, ◌<◌}
use native.Mathlib.Omega.{arith}
use mathlib.Core.Path.{◌≡◌, refl, sym, ◌∙◌, ap}
use mathlib.Core.Bool.{Bool, ◌||◌, true≢false}
use mathlib.Core.Logic.{⊎_elim}
use mathlib.Core.List.Memᴰ
use mathlib.Core.List.{List, [], ◌∷◌, ◌++◌, Memᴰ}
use Rattle.std.specs.Prelude.{Option, None, Some}
use lib.Dec.{ltb}
use borrow.Author.Tests.{lt-ltb, le-ltb, eq-eqb, ne_eqb}
use Rattle.journal.specs.Order.{Reading, weaker}
use Rattle.lists.specs.Those.{those}
use Rattle.journal.specs.Readings.{prefer, join, strongest, in_time, as_of, shown, has_stamp}
use Rattle.lists.proofs.Cases.{by_test, by_option}
use Rattle.lists.proofs.Those.{those_append}
use Rattle.journal.proofs.Order.{weaker_total, weaker_trans}
use Rattle.journal.proofs.InTime.{within_time, late, in_time_told, late_told}
use Rattle.journal.proofs.Strongest.{FindsStrongest, finds_strongest}

-- all stamps are at most hi; the stamps rise, above lo
abbrev pub Under : ℕ → List Reading → Type 0
Under hi [] = Unit {0}
Under hi (r ∷ rs) = (r.stamp ≤ hi) × Under hi rs

abbrev pub Rising : ℕ → List Reading → Type 0
Rising lo [] = Unit {0}
Rising lo (r ∷ rs) = (lo < r.stamp) × Rising r.stamp rs

-- a stamp among stamps of at most hi is at most hi, and one among stamps that rise above lo is above lo
under_among : (hi : ℕ) (rs : List Reading) (m : Reading) → Under hi rs → Memᴰ m rs → m.stamp ≤ hi
under_among hi [] m u a = absurd (Memᴰ.not-nil a)
under_among hi (r ∷ rs) m u a = ⊎_elim (λ (e : m ≡ r). rw e u.0) (λ b. under_among hi rs m u.1 b) (Memᴰ.cases_cons a)

pub rising_among : (lo : ℕ) (rs : List Reading) (m : Reading) → Rising lo rs → Memᴰ m rs → lo < m.stamp
rising_among lo [] m h a = absurd (Memᴰ.not-nil a)
rising_among lo (r ∷ rs) m h a =
    ⊎_elim (λ (e : m ≡ r). rw e h.0) (λ b. omega (arith, rising_among r.stamp rs m h.1 b)) (Memᴰ.cases_cons a)

-- ---- `strongest` turns `++` into `join`
prefer_assoc : (a b c : Reading) → prefer (prefer a b) c ≡ prefer a (prefer b c)
prefer_assoc a b c =
    by_test (weaker a b)
    (λ p. by_test (weaker b c)
    (λ q. cc (weaker_trans a b c p q))
    (λ q. cc))
    (λ p. by_test (weaker b c)
    (λ q. cc)
    (λ q. by_test (weaker a c)
    (λ t. absurd (true≢false (sym (weaker_trans a c b t (weaker_total b c q)) ∙ p)))
    (λ t. cc)))

join_none : (o : Option Reading) → join o None ≡ o
join_none None = refl
join_none (Some r) = refl

join_assoc : (a b c : Option Reading) → join (join a b) c ≡ join a (join b c)
join_assoc None b c = refl
join_assoc (Some r) None c = refl
join_assoc (Some r) (Some s) None = refl
join_assoc (Some r) (Some s) (Some t) = ap {B = Option Reading} Some (prefer_assoc r s t)

strongest_append : (rs ss : List Reading) → strongest (rs ++ ss) ≡ join (strongest rs) (strongest ss)
strongest_append [] ss = refl
strongest_append (r ∷ rs) ss = ap (join (Some r)) (strongest_append rs ss) ∙ sym (join_assoc (Some r) (strongest rs) (strongest ss))

-- ---- LAWS over an append
pub shown_append : (T : ℕ) (rs ss : List Reading) → shown T (rs ++ ss) ≡ join (shown T rs) (shown T ss)
unfolding shown
shown_append T rs ss = ap strongest (those_append _ rs ss) ∙ strongest_append (as_of T rs) (as_of T ss)

pub shown_nil : (T : ℕ) → shown T [] ≡ None
unfolding shown
shown_nil T = refl

shown_one_late : (T : ℕ) (r : Reading) → T < r.stamp → shown T (r ∷ []) ≡ None
unfolding shown
shown_one_late T r h = cc (late T r h)

-- a reading stamped above T does not matter
pub shown_late : (T : ℕ) (rs : List Reading) (r : Reading) → T < r.stamp → shown T (rs ++ (r ∷ [])) ≡ shown T rs
shown_late T rs r h = shown_append T rs (r ∷ []) ∙ ap (join (shown T rs)) (shown_one_late T r h) ∙ join_none (shown T rs)

-- two lists that show the same go on to do so
pub shown_snoc : (T : ℕ) (rs ss : List Reading) (r : Reading) → shown T rs ≡ shown T ss → shown T (rs ++ (r ∷ [])) ≡ shown T (ss ++ (r ∷ []))
shown_snoc T rs ss r e = shown_append T rs (r ∷ []) ∙ ap (λ (o : Option Reading). join o (shown T (r ∷ []))) e ∙ sym (shown_append T ss (r ∷ []))

-- as of the greatest stamp there is, the strongest of all
as_of_all : (T : ℕ) (rs : List Reading) → Under T rs → as_of T rs ≡ rs
as_of_all T [] u = refl
as_of_all T (r ∷ rs) u = cc (as_of_all T rs u.1, within_time T r u.0)

pub shown_all : (T : ℕ) (rs : List Reading) → Under T rs → shown T rs ≡ strongest rs
unfolding shown
shown_all T rs u = ap strongest (as_of_all T rs u)

-- ---- LAW under a clear with stamp P
abbrev pub stays : ℕ → Option Reading → Reading → Bool
stays P o r = ltb P r.stamp || has_stamp o r.stamp

-- a rising list: those up to P, then those above P
abbrev above : ℕ → List Reading → List Reading
above P rs = those (λ r. ltb P r.stamp) rs

all_above : (P lo : ℕ) → P ≤ lo → (rs : List Reading) → Rising lo rs → (as_of P rs ≡ []) × (above P rs ≡ rs)
all_above P lo l [] h = (refl, refl)
all_above P lo l (r ∷ rs) h =
    let i = all_above P r.stamp (omega arith) rs h.1 in
    let p : P < r.stamp = omega arith in
    (cc (late P r p), cc (lt-ltb P r.stamp p))

split : (P lo : ℕ) (rs : List Reading) → Rising lo rs → rs ≡ as_of P rs ++ above P rs
split P lo [] h = refl
split P lo (r ∷ rs) h =
    by_test (in_time P r)
    (λ t. cc (split P r.stamp rs h.1, le-ltb P r.stamp (in_time_told P r t)))
    (λ t.
    let p : P < r.stamp = late_told P r t in
    let k = all_above P P (omega arith) (r ∷ rs) (p, h.1) in
    cc (k.0, k.1))

under_as_of : (P : ℕ) (rs : List Reading) → Under P (as_of P rs)
under_as_of P [] = tt
under_as_of P (r ∷ rs) =
    by_test (in_time P r) (λ t. rw t (in_time_told P r t, under_as_of P rs)) (λ t. rw t (under_as_of P rs))

rising_less : (lo lo' : ℕ) → lo ≤ lo' → (rs : List Reading) → Rising lo' rs → Rising lo rs
rising_less lo lo' l [] h = tt
rising_less lo lo' l (r ∷ rs) h = (omega arith, h.1)

rising_as_of : (P lo : ℕ) (rs : List Reading) → Rising lo rs → Rising lo (as_of P rs)
rising_as_of P lo [] h = tt
rising_as_of P lo (r ∷ rs) h =
    let i = rising_as_of P r.stamp rs h.1 in
    by_test (in_time P r) (λ t. rw t (h.0, i)) (λ t. rw t (rising_less lo r.stamp (omega arith) (as_of P rs) i))

-- what stays of those above P, and of those up to P
stays_above : (P : ℕ) (o : Option Reading) (rs : List Reading) → those (stays P o) (above P rs) ≡ above P rs
stays_above P o [] = refl
stays_above P o (r ∷ rs) = by_test (ltb P r.stamp) (λ t. cc (stays_above P o rs)) (λ t. cc (stays_above P o rs))

none_has : (P lo : ℕ) (m : Reading) → m.stamp ≤ lo → (rs : List Reading) → Rising lo rs → Under P rs → those (stays P (Some m)) rs ≡ []
none_has P lo m l [] h u = refl
none_has P lo m l (r ∷ rs) h u =
    let q : m.stamp < r.stamp = omega arith in
    cc (none_has P r.stamp m (omega arith) rs h.1 u.1, le-ltb P r.stamp u.0, ne_eqb m.stamp r.stamp (λ e. omega arith))

-- of rising readings up to P one alone has the stamp of one of them
one_stays : (P lo : ℕ) (rs : List Reading) (m : Reading) → Rising lo rs → Under P rs → Memᴰ m rs → those (stays P (Some m)) rs ≡ m ∷ []
one_stays P lo [] m h u a = absurd (Memᴰ.not-nil a)
one_stays P lo (r ∷ rs) m h u a =
    let d = le-ltb P r.stamp u.0 in
    ⊎_elim
    (λ (e : m ≡ r).
    let q : m.stamp ≡ r.stamp = cc in
    cc (d, none_has P r.stamp m (omega arith) rs h.1 u.1, eq-eqb m.stamp r.stamp q))
    (λ b.
    let q : r.stamp < m.stamp = rising_among r.stamp rs m h.1 b in
    cc (d, one_stays P r.stamp rs m h.1 u.1 b, ne_eqb m.stamp r.stamp (λ f. omega arith)))
    (Memᴰ.cases_cons a)

shown_one : (T : ℕ) (r : Reading) → r.stamp ≤ T → shown T (r ∷ []) ≡ Some r
unfolding shown
shown_one T r h = cc (within_time T r h)

under_more : (hi hi' : ℕ) → hi ≤ hi' → (rs : List Reading) → Under hi rs → Under hi' rs
under_more hi hi' h [] u = tt
under_more hi hi' h (r ∷ rs) u = (omega arith, under_more hi hi' h rs u.1)

low_stays : (P T lo : ℕ) → P ≤ T → (rs : List Reading) → Rising lo rs → Under P rs → shown T (those (stays P (strongest rs)) rs) ≡ shown T rs
low_stays P T lo l rs h u =
    by_option (strongest rs)
    (λ n. let z : FindsStrongest rs None = rw n at (finds_strongest rs) in rw z)
    (λ m n.
    let z : FindsStrongest rs (Some m) = rw n at (finds_strongest rs) in
    rw (n, one_stays P lo rs m h u z.among, shown_one T m (omega (arith, under_among P rs m u z.among)), shown_all T rs (under_more P T l rs u))
    (sym n))

pub shown_stays : (P T lo : ℕ) → P ≤ T → (rs : List Reading) → Rising lo rs → shown T (those (stays P (shown P rs)) rs) ≡ shown T rs
unfolding shown
shown_stays P T lo l rs h =
    let o = shown P rs in
    let low = as_of P rs in
    let high = above P rs in
    let s : rs ≡ low ++ high = split P lo rs h in
    ap (λ (x : List Reading). shown T (those (stays P o) x)) s
    ∙ ap (shown T) (those_append (stays P o) low high ∙ ap (λ (x : List Reading). those (stays P o) low ++ x) (stays_above P o rs))
    ∙ shown_append T (those (stays P o) low) high
    ∙ ap (λ (x : Option Reading). join x (shown T high)) (low_stays P T lo l low (rising_as_of P lo rs h) (under_as_of P rs))
    ∙ sym (shown_append T low high)
    ∙ sym (ap (shown T) s)
