-- The first quarter that passes a test: it passes, it is there if any passes, and none that passes comes before it. Assumes nothing.
use Prim.Native.Nat.{ℕ, zero, suc, ◌≤◌, ◌<◌}
use mathlib.Core.Path.{◌≡◌, refl, sym, subst, ◌∙◌}
use mathlib.Core.Bool.{Bool, true, false, true≢false}
use native.Mathlib.Omega.{arith}
use lib.Dec.{leb}
use borrow.Author.Tests.{leb-true, leb-false}
use Rattle.lists.proofs.Cases.{by_test, by_option}
use Rattle.std.specs.Prelude.{Some, None}
use Rattle.wall_clock.specs.Starts.{first_up_to}

module _ (test : ℕ → Bool) where
  found_none : first_up_to test 0 ≡ None
  unfolding first_up_to
  found_none = refl

  -- one that is found among the quarters before stays found; else it is the last one, if that passes
  found_before : (n number : ℕ) → first_up_to test n ≡ Some number → first_up_to test (suc n) ≡ Some number
  unfolding first_up_to
  found_before n number e = rw e

  found_last : (n : ℕ) → first_up_to test n ≡ None → test (suc n) ≡ true → first_up_to test (suc n) ≡ Some (suc n)
  unfolding first_up_to
  found_last n e t = rw (e, t)

  found_nowhere : (n : ℕ) → first_up_to test n ≡ None → test (suc n) ≡ false → first_up_to test (suc n) ≡ None
  unfolding first_up_to
  found_nowhere n e f = rw (e, f)

  -- what is found is one of the quarters, and passes
  pub record Passes (n quarter : ℕ) : Type 0 where
    pub from : 1 ≤ quarter
    pub to : quarter ≤ n
    pub passes : test quarter ≡ true

  pub first_passes : (n quarter : ℕ) → first_up_to test n ≡ Some quarter → Passes n quarter
  first_passes zero quarter e = let z : ◌≡◌ {A = ℕ} 0 1 = cc found_none in absurd (omega arith)
  first_passes (suc n) quarter e =
      by_option (first_up_to test n)
      (λ p.
      by_test (test (suc n))
      (λ t.
      let same : suc n ≡ quarter = cc (found_last n p t) in
      record { from = omega arith; to = omega arith; passes = subst (λ (q : ℕ). test q ≡ true) same t })
      (λ f.
      let z : ◌≡◌ {A = ℕ} 0 1 = cc (found_nowhere n p f) in
      absurd (omega arith)))
      (λ number p.
      let same : number ≡ quarter = cc (found_before n number p) in
      let before = first_passes n number p in
      record { from = omega arith; to = omega arith; passes = subst (λ (q : ℕ). test q ≡ true) same before.passes })

  -- a quarter is found, and it is none after a given one
  pub record Found (n last : ℕ) : Type 0 where
    pub quarter : ℕ
    pub found : first_up_to test n ≡ Some quarter
    pub first : quarter ≤ last

  -- where a quarter passes one is found, and none that passes comes before it
  pub first_found : (n quarter : ℕ) → 1 ≤ quarter → quarter ≤ n → test quarter ≡ true → Found n quarter
  first_found zero quarter h l t = absurd (omega arith)
  first_found (suc n) quarter h l t =
      by_test (leb quarter n)
      (λ early.
      let before = first_found n quarter h (leb-true quarter n early) t in
      record { quarter = before.quarter; found = found_before n before.quarter before.found; first = before.first })
      (λ late.
      let same : quarter ≡ suc n = omega (arith, leb-false quarter n late) in
      by_option (first_up_to test n)
      (λ p.
      record {
        quarter = suc n;
        found = found_last n p (subst (λ (q : ℕ). test q ≡ true) same t);
        first = omega arith;
      })
      (λ number p.
      record { quarter = number; found = found_before n number p; first = omega (arith, (first_passes n number p).to) }))

  -- so it is the one before which none passes
  pub first_is : (n quarter : ℕ) → 1 ≤ quarter → quarter ≤ n → test quarter ≡ true → ((other : ℕ) → 1 ≤ other → other < quarter → test other ≡ false)
      → first_up_to test n ≡ Some quarter
  first_is n quarter h l t fails =
      let f = first_found n quarter h l t in
      let p = first_passes n f.quarter f.found in
      by_test (leb quarter f.quarter)
      (λ late.
      let same : f.quarter ≡ quarter = omega (arith, leb-true quarter f.quarter late) in
      subst (λ (q : ℕ). first_up_to test n ≡ Some q) same f.found)
      (λ early.
      absurd (true≢false (sym p.passes ∙ fails f.quarter p.from (leb-false quarter f.quarter early))))

  -- and none is found where none passes
  pub first_none : (n : ℕ) → ((quarter : ℕ) → 1 ≤ quarter → quarter ≤ n → test quarter ≡ false) → first_up_to test n ≡ None
  first_none n fails =
      by_option (first_up_to test n)
      (λ e. e)
      (λ number e.
      let p = first_passes n number e in
      absurd (true≢false (sym p.passes ∙ fails number p.from p.to)))
