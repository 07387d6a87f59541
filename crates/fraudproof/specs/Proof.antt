-- A proof of bad encoding by its values: a claim, and witnesses on the claimed line.
use Rattle.std.specs.Prelude.{ℕ, ◌+◌, ◌*◌, List, map, take, drop, slice_index}
use Rattle.std.specs.List.{range_with_len}
use Rattle.header.specs.Fields.{Fields}
use Rattle.header.specs.Sizes.{head_len, witness_body_len, path_len}
use Rattle.wire.specs.Values.{Claim, Witness}
use Rattle.fraudproof.specs.declared.proof.Proof.{Proof}

pub record Case : Type 0 where
  pub claim : Claim
  pub witnesses : List Witness

-- the bytes of a witness record
abbrev pub witness_len : Fields → ℕ
witness_len h = head_len + witness_body_len h

-- a witness by the bytes of its record: behind the head its place, its axis, its share and its path
unfoldable pub witness_of : Fields → List ℕ → Witness
witness_of h r = record {
  place = slice_index r 6 + slice_index r 7 * 256;
  axis = slice_index r 8;
  share = take h.s (drop 9 r);
  path = take (path_len h) (drop (9 + h.s) r);
}

-- witness i of witness records that lie one after the other
abbrev pub witness_at : Fields → List ℕ → ℕ → Witness
witness_at h ws i = witness_of h (drop (i * witness_len h) ws)

-- a proof in the block of header h: its k witnesses are cut from their records
abbrev pub case_of : Fields → Proof → Case
case_of h p = record {
  claim = record { axis = p.axis; index = p.index; root = p.root.now; path = p.path.now };
  witnesses = map (witness_at h p.witnesses.now) (range_with_len 0 h.k);
}
