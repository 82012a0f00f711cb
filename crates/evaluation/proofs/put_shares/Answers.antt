-- `evaluation::put_shares` meets its contract: the shares of the consumers passed have been put. Assumes nothing.
use Prim.Native.Nat.{ℕ, ◌/◌, ◌≤◌, ◌<◌}
use mathlib.Core.Path.{◌≡◌, sym, ap, subst, ◌∙◌}
use mathlib.Core.Logic.{⊎_elim}
use mathlib.Core.List.{List, []}
use native.Mathlib.Omega.{arith}
use lib.ListN.{length, take, length-append}
use Rattle.std.proofs.Common.{rules}
use Rattle.std.proofs.lemmas.List.{get_or-take, length-take}
use Rattle.lists.specs.Pages.{Added}
use Rattle.lists.proofs.TableLaws.{length_table}
use Rattle.lists.proofs.Adding.{no_piece, piece_fits, piece_more, all_pieces}
use Rattle.lists.proofs.Chains.{Taken, taken_one, taken_all}
use Rattle.registration.specs.Rules.{count_at, place_at}
use Rattle.std.specs.Simd.{first_chunks}
use Rattle.evaluation.proofs.Parts.{length_fives, five_numbers}
use Rattle.allocation.proofs.Pairs.{pairs_length}
use Rattle.allocation.proofs.Shareable.{few_points, count_most}
use Rattle.evaluation.proofs.put_shares.Goals as goal
use Rattle.evaluation.proofs.put_shares.Goals.{After-from}
use Rattle.evaluation.proofs.put_shares.Invariants.{shares_of}

-- the array of the consumer whose turn it is
row : (c : After-from) → Taken (first_chunks 5 64 c.args.shares.now) c.next.new.self.a.rest.now (length c.loop-row.yielded) c.in-Some.row.now []
row c = taken_one _ _ _ _ _ (sym c.in-Some.ensures.steps.0 ∙ c.loop-row.invariant.rows)

-- and how many producers it names
count : (c : After-from)
    → Taken (take c.args.registration.now.consumers c.args.registration.now.counts) c.next.new.self.b.rest.now (length c.loop-row.yielded) c.in-Some.count.now 0
count c = taken_one _ _ _ _ _ (sym c.in-Some.ensures.steps.1 ∙ c.loop-row.invariant.counts)

one_of : (c : After-from) → length c.loop-row.yielded < c.args.registration.now.consumers
one_of c = omega (arith, (count c).within, length-take c.args.registration.now.consumers c.args.registration.now.counts)

named : (c : After-from) → c.from.result ≡ count_at c.args.registration.now (length c.loop-row.yielded)
named c =
    c.from.ensures ∙ (count c).here
    ∙ get_or-take c.args.registration.now.consumers c.args.registration.now.counts (length c.loop-row.yielded) 0 (one_of c)

few : (c : After-from) → c.from.result ≤ 5
few c = rw (named c) (count_most c.requires.0 (length c.loop-row.yielded) (one_of c))

-- its first so many numbers are its shares
part : (c : After-from) → take c.from.result c.in-Some.row.now ≡ shares_of c.args.shares.now c.args.registration.now.counts (length c.loop-row.yielded)
part c =
    let consumer = length c.loop-row.yielded in
    let size : length c.args.shares.now ≡ 320 = search rules in
    let known : consumer < 64 = omega (arith, one_of c, few_points c.requires.0) in
    rw ((row c).here, named c)
    (five_numbers 64 c.args.shares.now consumer (count_at c.args.registration.now consumer) known (count_most c.requires.0 consumer (one_of c)) (omega arith))

pub loop-row-init : goal.loop-row-init
loop-row-init c =
    let size : length c.args.shares.now ≡ 320 = search rules in
    let rows : length c.args.shares.now / 5 ≡ 64 = omega (arith, size) in
    record {
      rows = search rules ∙ c.as_chunks.ensures.front ∙ ap (λ (n : ℕ). first_chunks 5 n c.args.shares.now) rows;
      counts = search rules;
      within = omega arith;
      put = no_piece (shares_of c.args.shares.now c.args.registration.now.counts) (omega (arith, c.requires.1));
    }

pub shared_ref_as_front-put : goal.shared_ref_as_front-put
shared_ref_as_front-put c = few c

pub put-requires : goal.put-requires
put-requires c =
    let from = (goal.at.put-requires c).After-from in
    let a = c.args in
    let r = a.registration.now in
    let consumer = length c.loop-row.yielded in
    let fits = piece_fits (shares_of a.shares.now r.counts) c.loop-row.invariant.put r.consumers (one_of from) (omega (arith, c.requires.1, pairs_length r (place_at a.shares.now))) in
    omega (arith, fits, named from, length_table (place_at a.shares.now consumer) (count_at r consumer), length-take {A = ℕ})

pub loop-row-preserved : goal.loop-row-preserved
loop-row-preserved c =
    let from = (goal.at.loop-row-preserved c).After-from in
    rw length-append (record {
      rows = (row from).left;
      counts = (count from).left;
      within = omega (arith, one_of from);
      put = piece_more (shares_of c.args.shares.now c.args.registration.now.counts) c.loop-row.invariant.put (subst (λ (part : List ℕ). Added part c.loop-row.page c.put.new.self) (part from) c.put.ensures);
    })

pub returns : goal.returns
returns c =
    let r = c.args.registration.now in
    let size : length (first_chunks 5 64 c.args.shares.now) ≡ 64 = length_fives 64 c.args.shares.now in
    let counts : length r.counts ≡ 64 = search rules in
    let passed : r.consumers ≤ length c.loop-row.yielded =
    ⊎_elim
    (λ e. omega (arith, few_points c.requires.0, taken_all (first_chunks 5 64 c.args.shares.now) _ (length c.loop-row.yielded) c.loop-row.invariant.rows e.1.0))
    (λ e. omega (arith, few_points c.requires.0, length-take r.consumers r.counts, taken_all (take r.consumers r.counts) _ (length c.loop-row.yielded) c.loop-row.invariant.counts e.1.0))
    c.in-None.ensures.steps
    in
    all_pieces (shares_of c.args.shares.now r.counts) c.loop-row.invariant.put c.loop-row.invariant.within passed
