use Rattle.std.proofs.Common.{◌≡◌, not, length, Some, None, Ok, sym, refl, ap}
use Rattle.std.proofs.lemmas.Bool.{and_from, lt-ltb, cond-true}
use Rattle.store.specs.Meaning.{Meaning, block}
use Rattle.store.specs.Showing.{asked}
use Rattle.store.proofs.Asking.{admitted, shows_this, untouched_free}
use Rattle.memory.specs.Images.{row_tree_in, data_tree_in, row_evidence, image_meaning}
use Rattle.memory.proofs.Spots.{whole_image}
use Rattle.memory.proofs.memory.MemoryStore.show.Goals as goal

pub put_share-requires : goal.put_share-requires
put_share-requires c =
    let a = c.args in
    let me = a.self.now in
    let m : Meaning = image_meaning me.image.now me.shape.k me.shape.s in
    let free : asked m.k m.s a.cell.row a.cell.col (length a.share.now) (length a.path.now) ≡ Ok tt =
    sym c.in_ok-admit.ensures in
    let t = admitted m.k m.s a.cell.row a.cell.col _ _ free in
    record {
      cell = (t.row, t.col);
      room = (whole_image me.shape.k me.shape.s (length me.image.now) me.whole c.if-is_empty.ensures, t.share);
    }

pub put_path-requires : goal.put_path-requires
put_path-requires c =
    let a = c.args in
    let me = a.self.now in
    let m : Meaning = image_meaning me.image.now me.shape.k me.shape.s in
    let free : asked m.k m.s a.cell.row a.cell.col (length a.share.now) (length a.path.now) ≡ Ok tt =
    sym c.in_ok-admit.ensures in
    let t = admitted m.k m.s a.cell.row a.cell.col _ _ free in
    record {
      cell = (t.row, t.col);
      room = (whole_image me.shape.k me.shape.s (length me.image.now) me.whole c.if-is_empty.ensures, t.path);
    }

pub returns : goal.returns
unfolding row_tree_in data_tree_in
returns c =
    let a = c.args in
    let me = a.self.now in
    let m : Meaning = image_meaning me.image.now me.shape.k me.shape.s in
    let r = a.cell.row in
    let col = a.cell.col in
    let free : asked m.k m.s r col (length a.share.now) (length a.path.now) ≡ Ok tt =
    sym c.in_ok-admit.ensures in
    let t = admitted m.k m.s r col _ _ free in
    let here : m.at r col ≡ Some (row_evidence (block m.k m.s) me.image.now r col) =
    cond-true _ (Some (row_evidence (block m.k m.s) me.image.now r col)) None
    (and_from _ _ (ap not (sym c.if-is_empty.ensures)) (and_from _ _ (lt-ltb r _ t.row) (lt-ltb col _ t.col))) in
    record {
      shown = λ o.
          shows_this m r col a.share.now a.path.now free (Some (row_evidence (block m.k m.s) me.image.now r col)) here _ _ _ _ _
          refl c.put_share.ensures c.put_path.ensures refl o;
      refused = untouched_free _ _ _ free;
    }
