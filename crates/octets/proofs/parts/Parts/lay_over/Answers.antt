use Rattle.std.proofs.Common.{◌+◌, [], ◌++◌, length, refl, ap, ◌∙◌, arith, length-append}
use Rattle.std.proofs.lemmas.List.{append_assoc}
use Rattle.octets.specs.Window.{window}
use Rattle.octets.proofs.Windows.{window_none, window_next}
use Rattle.octets.proofs.parts.Parts.lay_over.Goals as goal

pub returns : goal.returns
returns c =
    let p = c.self.inside in
    let h = p.head.now in
    let l = p.left.now in
    let r = p.right.now in
    let t = p.tail.now in
    let s = c.args.start in
    let n = length c.args.block.now in
    let none = c.requires ∙ window_none s n in
    let one = window_next [] h _ _ s n 0 refl none c.lay.ensures in
    let two = window_next h l _ _ s n (length h) refl one c.lay-2.ensures in
    let three = window_next (h ++ l) r _ _ s n (length h + length l) (omega (arith, length-append h l)) two c.lay-3.ensures in
    let four = window_next (h ++ l ++ r) t _ _ s n (length h + length l + length r) (simp length-append (omega arith)) three c.lay-4.ensures in
    four ∙ ap (λ m. window (m ++ t) s n) (append_assoc h l r) ∙ ap (λ m. window m s n) c.self.view_is
