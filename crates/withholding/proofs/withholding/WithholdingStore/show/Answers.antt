use Rattle.std.proofs.Common.{◌≡◌, ℕ, ◌&&◌, true, false, length, None, Ok, sym, ap, ◌∙◌, arith}
use Rattle.std.proofs.lemmas.Bool.{cond-false}
use Rattle.store.specs.Meaning.{Meaning}
use Rattle.store.specs.Showing.{asked}
use Rattle.store.proofs.Asking.{inside, shows_free, shows_this}
use Rattle.withholding.specs.Masked.{masked, hides}
use Rattle.withholding.proofs.withholding.WithholdingStore.show.Goals as goal

pub returns-clause-shown : goal.returns-clause-shown
returns-clause-shown g c o =
    let a = c.args in
    let m : Meaning = g.S.Store.meaning a.self.now.below in
    let free : asked m.k m.s a.cell.row a.cell.col (length a.share.now) (length a.path.now) ≡ Ok tt = sym c.in_ok-admit.ensures in
    let seen : hides m a.self.now.hidden a.cell.row a.cell.col ≡ false =
    sym (c.if-hides.ensures ∙ ap (λ b. b && hides m a.self.now.hidden a.cell.row a.cell.col) (inside m.k m.s a.cell.row a.cell.col _ _ free)) in
    let same : (masked m a.self.now.hidden).at a.cell.row a.cell.col ≡ m.at a.cell.row a.cell.col = cond-false _ None (m.at a.cell.row a.cell.col) seen in
    let x = c.show.ensures.shown o in
    let y = shows_free m a.cell.row a.cell.col a.share.now a.path.now free _ _ _ _ _ x in
    shows_this (masked m a.self.now.hidden) a.cell.row a.cell.col a.share.now a.path.now free (m.at a.cell.row a.cell.col) same _ _ _ _ _
    y.0 y.1.0 y.1.1 (ap (λ n. masked n a.self.now.hidden) x.same) x.kept

pub returns-clause-unasked : goal.returns-clause-unasked
returns-clause-unasked g c h =
    let a = c.args in
    let m : Meaning = g.S.Store.meaning a.self.now.below in
    let free : asked m.k m.s a.cell.row a.cell.col (length a.share.now) (length a.path.now) ≡ Ok tt = sym c.in_ok-admit.ensures in
    let shown : false ≡ true = c.if-hides.ensures ∙ ap (λ b. b && hides m a.self.now.hidden a.cell.row a.cell.col) (inside m.k m.s a.cell.row a.cell.col _ _ free) ∙ h in
    let z : ◌≡◌ {A = ℕ} 0 1 = cc in
    absurd (omega arith)
