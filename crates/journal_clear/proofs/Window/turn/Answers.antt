-- `journal_clear::Window::turn` meets its contract: each way through it is a law of `Turns`. Assumes nothing.
use mathlib.Core.Path.{sym, ◌∙◌}
use Rattle.journal_clear.specs.Marks.{key_of}
use Rattle.journal_clear.proofs.Turns.{before, beyond, late, seen_again_lem, seen_now}
use Rattle.journal_clear.proofs.Window.turn.Goals as goal

pub returns-then-key-self : goal.returns-then-key-self
unfolding key_of
returns-then-key-self c = before _ _ _ _ _ _ _ _ c.if-key-self.true

pub returns-then-k-ge-WINDOW : goal.returns-then-k-ge-WINDOW
unfolding key_of
returns-then-k-ge-WINDOW c = rw c.lesser.ensures (beyond _ _ _ _ _ _ _ _ c.if-key-self.false c.if-k-ge-WINDOW.true)

pub returns-then-self-numbers : goal.returns-then-self-numbers
unfolding key_of
returns-then-self-numbers c = late _ _ _ _ _ _ _ _ c.if-key-self.false c.if-k-ge-WINDOW.false c.if-self-numbers.true

pub returns-then-has : goal.returns-then-has
unfolding key_of
returns-then-has c = seen_again_lem _ _ _ _ _ _ _ _ c.if-key-self.false c.if-k-ge-WINDOW.false c.if-self-numbers.false (sym c.has.ensures ∙ c.if-has.true)

pub returns : goal.returns
unfolding key_of
returns c = seen_now _ _ _ _ _ _ _ _ c.if-key-self.false c.if-k-ge-WINDOW.false c.if-self-numbers.false _ (sym c.has.ensures ∙ c.if-has.false) c.see.ensures
