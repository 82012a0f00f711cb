-- A text from its stages: the G line, the lines of the producers and of the consumers, and the verdict on the whole. Assumes nothing.
use Prim.Native.Nat.{ℕ, ◌+◌, ◌≤◌}
use mathlib.Core.Path.{◌≡◌, sym}
use mathlib.Core.Bool.{not}
use mathlib.Core.List.{List}
use Rattle.std.specs.Prelude.{Option, Result, Ok, Err}
use Rattle.std.specs.Result.{result_and, IsErrAnd}
use Rattle.std.proofs.lemmas.Result.{err_from_is_err_and}
use Rattle.answers.proofs.Values.{refused_told, given_told}
use native.Mathlib.Omega.{arith}
use borrow.Author.Tests.{not-false}
use Rattle.answers.specs.declared.Refusal.{Refusal}
use Rattle.answers.specs.declared.Refusal.TheVariants.{NotInColumns, CountOutside}
use Rattle.answers.proofs.Refusals.{passed}
use Rattle.columns.specs.Fields.{nth, is_none}
use Rattle.lines.specs.Line.{first_line, after_line}
use Rattle.lines.specs.Lines.{line_in}
use Rattle.registration.specs.declared.Registration.{Registration}
use Rattle.registration.specs.Rules.{point_counts_right}
use Rattle.registration.proofs.Damage.{point_bounds}
use Rattle.registration_text.specs.Lines.{letter_g, widths_g}
use Rattle.registration_text.specs.Reader.{verdict_g, verdict_of_all, with_counts, read_g, read_d, read_o, read_text}
use Rattle.registration_text.proofs.Going.{going}

-- what the exit of a `?` returns
pub exits : (given told : Result Registration Refusal) (refusal : Refusal) → IsErrAnd given (λ other. other ≡ refusal) → Err refusal ≡ told → given ≡ told
exits given told refusal is e = let p = err_from_is_err_and given is in rw (p.1, p.2) e

-- ---- the G line

-- the counts of a G line that is accepted
counts_within : (numbers : Option (List ℕ)) → verdict_g numbers ≡ Ok tt → nth 0 numbers + nth 1 numbers ≤ 64
unfolding verdict_g
counts_within numbers e =
    let after = (passed NotInColumns (is_none numbers) _ e).1 in
    let counts = (passed CountOutside (not (point_counts_right (nth 0 numbers) (nth 1 numbers))) _ after).0 in
    omega (arith, point_bounds (nth 0 numbers) (nth 1 numbers) (not-false _ counts))

module _ (text : List ℕ) where
  abbrev numbers : Option (List ℕ)
  numbers = line_in letter_g widths_g (first_line text)

  abbrev pub counted : Registration
  counted = with_counts (nth 0 numbers) (nth 1 numbers) (nth 2 numbers)

  pub group_stops : (refusal : Refusal) → result_and (verdict_g numbers) (Ok counted) ≡ Err refusal → read_g text ≡ Err refusal
  unfolding read_g
  group_stops refusal e = rw (refused_told (verdict_g numbers) counted refusal (sym e))

  module _ (r : Registration) (e : result_and (verdict_g numbers) (Ok counted) ≡ Ok r) where
    pub group_goes : read_g text ≡ going r (after_line text)
    unfolding read_g
    group_goes = let a = given_told (verdict_g numbers) counted r (sym e) in rw (a.0, a.1)

    pub group_within : r.producers + r.consumers ≤ 64
    group_within = let a = given_told (verdict_g numbers) counted r (sym e) in rw a.1 (counts_within numbers a.0)

-- ---- the text

module _ (text : List ℕ) where
  pub stops_first : (refusal : Refusal) → read_g text ≡ Err refusal → Err refusal ≡ read_text text
  unfolding read_text
  stops_first refusal g = rw g

  module _ (r : Registration) (after : List ℕ) (g : read_g text ≡ going r after) where
    pub stops_second : (refusal : Refusal) → read_d 0 r.producers r after ≡ Err refusal → Err refusal ≡ read_text text
    unfolding read_text
    stops_second refusal d = rw (g, d)

    module _ (r' : Registration) (later : List ℕ) (d : read_d 0 r.producers r after ≡ going r' later) where
      pub stops_third : (refusal : Refusal) → read_o 0 r'.consumers r' later ≡ Err refusal → Err refusal ≡ read_text text
      unfolding read_text
      stops_third refusal o = rw (g, d, o)

      module _ (r'' : Registration) (last : List ℕ) (o : read_o 0 r'.consumers r' later ≡ going r'' last) where
        pub stops_last : (refusal : Refusal) → verdict_of_all r'' last ≡ Err refusal → Err refusal ≡ read_text text
        unfolding read_text
        stops_last refusal e = rw (g, d, o, e)

        pub goes_on : verdict_of_all r'' last ≡ Ok tt → Ok r'' ≡ read_text text
        unfolding read_text
        goes_on e = rw (g, d, o, e)
