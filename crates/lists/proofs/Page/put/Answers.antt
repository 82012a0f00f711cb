-- `lists::Page::put` meets its contract: the part has been put. Assumes nothing.
use Prim.Native.Nat.{◌+◌, ◌-◌}
use mathlib.Core.Path.{◌≡◌, refl}
use native.Mathlib.Omega.{arith}
use Rattle.std.proofs.Common.{rules}
use lib.ListN.{length}
use Rattle.lists.proofs.PlaceLaws.{put_copied}
use Rattle.lists.proofs.Page.put.Goals as goal

pub returns : goal.returns
returns g c =
    let a = c.args in
    let l : a.self.now.end + length a.part.now - a.self.now.end ≡ length a.part.now = omega arith in
    record {
      room = c.requires;
      put = rw l (put_copied a.self.now.end (length a.part.now) a.part.now a.self.now.space.now _ c.copy_from_slice.ensures.after refl);
      same_length = search rules;
      same_space = refl;
    }
