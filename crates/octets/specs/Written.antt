-- What a buffer holds after a call: what the call is to write, or, where the call refuses, what it held before.
use Rattle.std.specs.Prelude.{Ok, Err, Result}

abbrev pub written : {A E X : Type 0} → Result A E → X → X → X
written (Ok a) new old = new
written (Err e) new old = old
