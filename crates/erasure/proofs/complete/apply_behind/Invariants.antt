use Rattle.std.proofs.Common.{◌≡◌, ℕ, ◌+◌, ◌*◌, ◌/◌, ◌%◌, ◌<◌}
use Rattle.octets.specs.Shares.{byte_of}
use Rattle.codes.specs.Code.{applied}
use Rattle.erasure.proofs.complete.apply_behind.Given as goal

-- the cells that are done
abbrev pub invariant-loop-m : goal.invariant-loop-m
invariant-loop-m l =
    (m : ℕ) → m < l.m → (b : ℕ) → b < l.s
    → byte_of l.s m b l.behind ≡ applied l.k (λ j. byte_of l.k (m / l.w) j l.rows) (λ j. byte_of l.s (j * l.w + m % l.w) b l.front)
