-- `columns::put_number` meets its contract: the part that was lent is the column.
use Prim.Native.Nat.{◌+◌, ◌-◌}
use mathlib.Core.Path.{◌≡◌, refl, sym}
use mathlib.Core.Bool.{false}
use native.Mathlib.Omega.{arith}
use Rattle.std.proofs.Common.{rules}
use lib.ListN.{length, take, drop, length-drop}
use lib.Seq.{length-take-le}
use Rattle.lists.proofs.PlaceLaws.{put_copied}
use Rattle.columns.specs.Column.{column_of}
use Rattle.columns.proofs.Fill.{length_column}
use Rattle.columns.proofs.put_number.Goals as goal

pub returns : goal.returns
returns c =
    let a = c.args in
    let page = a.page.now in
    let w : page.end + a.width - page.end ≡ a.width = omega arith in
    let l : length (take a.width (drop page.end page.space.now)) ≡ a.width = length-take-le _ _ (simp length-drop (omega arith)) in
    let written : c.write_number.new.out ≡ column_of false a.width a.value = rw (w, l) at c.write_number.ensures in
    let long : a.width ≡ length (column_of false a.width a.value) = sym (length_column false a.width a.value) in
    record {
      room = rw length_column c.requires;
      put = rw w (put_copied page.end a.width (column_of false a.width a.value) page.space.now _ written long);
      same_length = search rules;
      same_space = refl;
    }
