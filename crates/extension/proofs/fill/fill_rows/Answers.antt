use Rattle.std.proofs.Common.{◌≡◌, ℕ, ◌+◌, ◌-◌, ◌*◌, ◌<◌, List, length, get_or, take, drop, ap, ◌∙◌, arith}
use Rattle.octets.specs.Shares.{share}
use Rattle.octets.proofs.Shares.{share_end, share_read, share_length, put_more}
use Rattle.codes.specs.Words.{codeword}
use Rattle.extension.proofs.Fills.{small, row_fits, never_refused, encoded_row}
use Rattle.extension.proofs.fill.fill_rows.Goals as goal

pub overflow_mul-line : goal.overflow_mul-line
overflow_mul-line g c = let b = small c.args.k c.args.s c.requires.0 c.requires.1.0 in record { fits = omega arith }

pub slice_bounds-data-end : goal.slice_bounds-data-end
slice_bounds-data-end g c =
    share_end c.loop-r.r c.args.k (c.args.k * c.args.s) (length c.args.shares.now) c.loop-r-test.true c.requires.1.1.0

pub slice_bounds-encode-end : goal.slice_bounds-encode-end
slice_bounds-encode-end g c =
    share_end c.loop-r.r (2 * c.args.k) (2 * c.args.k * c.args.s) (length c.loop-r.square) (omega arith) (c.loop-r.auto.square ∙ c.requires.1.1.1)

pub unreachable-requires : goal.unreachable-requires
unreachable-requires g c =
    let row : ℕ = c.args.k * c.args.s in
    let line : ℕ = 2 * c.args.k * c.args.s in
    let r : ℕ = c.loop-r.r in
    let xs : List ℕ = c.args.shares.now in
    let sq : List ℕ = c.loop-r.square in
    never_refused c.encode.result _ c.encode.ensures.answer
    (row_fits c.args.k c.args.s (take (r * row + row - r * row) (drop (r * row) xs)) (take (r * line + line - r * line) (drop (r * line) sq))
    c.requires.0 c.requires.1.0
    (ap length (share_read row r xs) ∙ share_length row r c.args.k xs c.requires.1.1.0 c.loop-r-test.true)
    (ap length (share_read line r sq) ∙ share_length line r (2 * c.args.k) sq (c.loop-r.auto.square ∙ c.requires.1.1.1) (omega arith)))
    c.in_default.not-Ok

pub loop-r-preserved : goal.loop-r-preserved
loop-r-preserved g c =
    let r : ℕ = c.loop-r.r in
    let k : ℕ = c.args.k in
    let s : ℕ = c.args.s in
    let line : ℕ = 2 * c.args.k * c.args.s in
    let xs : List ℕ = c.args.shares.now in
    let sq : List ℕ = c.loop-r.square in
    let long : length sq ≡ 2 * k * line = c.loop-r.auto.square ∙ c.requires.1.1.1 in
    let below : r < 2 * k = omega arith in
    let part : length (take (r * line + line - r * line) (drop (r * line) sq)) ≡ line = ap length (share_read line r sq) ∙ share_length line r (2 * k) sq long below in
    put_more line r (2 * k) (r * line + line - r * line) sq c.encode.new.out long below (c.encode.auto.out ∙ part)
    (λ r x. get_or (codeword g.C.Code.table k s (share (k * s) r xs)) x 0)
    c.loop-r.invariant
    (λ x hx. ap (λ ws. get_or ws x 0)
    (encoded_row g.C.Code.table k s (take (r * (k * s) + k * s - r * (k * s)) (drop (r * (k * s)) xs))
    (take (r * line + line - r * line) (drop (r * line) sq)) c.encode.new.out c.requires.0 c.requires.1.0
    (ap length (share_read (k * s) r xs) ∙ share_length (k * s) r k xs c.requires.1.1.0 c.loop-r-test.true) part c.encode.ensures.word
    ∙ ap (codeword g.C.Code.table k s) (share_read (k * s) r xs)))
