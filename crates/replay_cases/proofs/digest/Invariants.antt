-- The sum is a remainder by 2^32, so that the next one fits.
use Rattle.std.proofs.Common.{◌<◌}
use Rattle.replay_cases.proofs.digest.Given as goal

abbrev pub invariant-loop-byte : goal.invariant-loop-byte
invariant-loop-byte l = l.sum < 4294967296
