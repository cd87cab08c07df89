-- One operation after the other keeps every dependence. Assumes nothing.
use Rattle.std.proofs.Common.{ℕ, ◌+◌, ◌*◌, ◌<◌, ◌≤◌, mul-le-mul_left, arith}
use Rattle.histories.specs.Examples.{SerialIsKept}

pub serial_is_kept_lem : SerialIsKept
serial_is_kept_lem p d bounds one_way = (
  record {
    takes_time = λ i h. (bounds i h).0;
    bounds = λ i h. (bounds i h).1;
    one_way = one_way;
    in_slots = λ i h. omega arith;
    apart = λ i j l h ui uj e f. let m = next i j l in let b = bounds j h in omega arith;
  },
  record {
    flow = λ r i j x. let m = next i j x.0 in let b = bounds i (earlier i j x.0 x.1) in omega arith;
    anti = λ r i j x. let m = next i j x.0 in let b = bounds j x.1 in omega arith;
    output = λ r i j x. let m = next i j x.0 in let b = bounds i (earlier i j x.0 x.1) in let c = bounds j x.1 in omega arith;
    in_memory = λ i j x. let m = next i j x.0 in let b = bounds j x.1 in (omega arith, λ e. omega arith);
  },
)
  where
    next : (i j : ℕ) → i < j → d * i + d ≤ d * j
    next i j l = let m = mul-le-mul_left d l in omega arith

    earlier : (i j : ℕ) → i < j → j < p.size → i < p.size
    earlier i j l h = omega arith
