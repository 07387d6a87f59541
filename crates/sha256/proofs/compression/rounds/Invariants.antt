use Rattle.std.proofs.Common.{◌≡◌, ◌≤◌, length, drop}
use Rattle.sha256.specs.Compression.{constants, up_to}
use Rattle.sha256.specs.Vars.{vars}
use Rattle.sha256.proofs.compression.rounds.Given as goal

abbrev pub invariant-loop-k : goal.invariant-loop-k
invariant-loop-k l =
    record {
      few : length l.yielded ≤ 64;
      ks : l.k-iterator.a.rest.now ≡ drop (length l.yielded) constants;
      ws : l.k-iterator.b.rest.now ≡ drop (length l.yielded) l.w;
      so_far : vars l.t ≡ up_to l.w (vars l.initial.t) (length l.yielded);
    }
