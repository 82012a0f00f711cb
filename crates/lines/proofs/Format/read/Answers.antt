-- `lines::Format::read` meets its contract: the frame, and the columns in it.
use mathlib.Core.Path.{sym, ◌∙◌}
use native.Mathlib.Omega.{arith}
use Rattle.lines.proofs.Parts.{framed_rest, in_frame, out_of_frame}
use Rattle.lines.proofs.Format.read.Goals as goal

pub returns-then-not-is_framed : goal.returns-then-not-is_framed
returns-then-not-is_framed g c =
    let a = c.args in
    out_of_frame a.self.now.letter c.total-size.result a.self.now.widths a.line.now (sym c.total-size.ensures) (sym c.is_framed.ensures ∙ c.if-not-is_framed.true)

pub read_columns-requires : goal.read_columns-requires
read_columns-requires g c =
    let a = c.args in
    let rest = framed_rest a.self.now.letter c.total-size.result a.line.now (sym c.is_framed.ensures ∙ c.if-not-is_framed.false) in
    (omega arith, (omega arith, omega arith))

pub returns : goal.returns
returns g c =
    let a = c.args in
    c.read_columns.ensures
    ∙ in_frame a.self.now.letter c.total-size.result a.self.now.widths a.line.now (sym c.total-size.ensures) (sym c.is_framed.ensures ∙ c.if-not-is_framed.false)
