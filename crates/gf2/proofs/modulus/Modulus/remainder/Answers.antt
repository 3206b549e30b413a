use Rattle.std.proofs.Common.{ℕ, ◌-◌, ◌/◌, ◌^◌, sym, subst, lt_of_lt_of_le, arith, pow_pos, pow_mono}
use lib.Bits.{bit_and, bit_xor}
use Rattle.gf2.specs.Algebra.{Leaves}
use Rattle.gf2.specs.Laws.{Division}
use Rattle.gf2.specs.declared.modulus.Modulus.{Modulus}
use Rattle.gf2.proofs.Division.{leaves_self, leaves_sum, leaves_some, leaves_unique, below}
use Rattle.gf2.proofs.Words.{past_length, from_lowest, next_digit, digit_below}
use Rattle.gf2.proofs.modulus.Modulus.remainder.Goals as goal

pub loop-i-init : goal.loop-i-init
loop-i-init c =
    let m = c.args.self.now in
    rw (past_length 64 c.args.a (omega arith)) (leaves_self m.polynomial m.degree 0 m.leading (pow_pos m.degree))

pub loop-i-preserved : goal.loop-i-preserved
loop-i-preserved c =
    let m = c.args.self.now in
    let digit = bit_and (c.args.a / 2 ^ (c.loop-i.i - 1)) 1 in
    let small = leaves_self m.polynomial m.degree digit m.leading (lt_of_lt_of_le (digit_below _) (pow_mono {i = 1} m.low)) in
    subst (λ (z : ℕ). Leaves z m.polynomial (bit_xor c.times_x.result digit)) (sym (next_digit c.args.a c.loop-i.i c.loop-i-test.true))
    (leaves_sum _ digit m.polynomial c.times_x.result digit (c.times_x.ensures _ c.loop-i.invariant) small)

whole : (m : Modulus) → Division m.polynomial
whole m = record {
  exists = λ a. leaves_some m.polynomial m.degree a m.leading;
  unique = λ a r s. leaves_unique a m.polynomial r s;
}

pub returns-then-a-self-eq0 : goal.returns-then-a-self-eq0
returns-then-a-self-eq0 c =
    let m = c.args.self.now in
    record {
      value = leaves_self m.polynomial m.degree c.args.a m.leading (below c.args.a m.degree c.if-a-self-eq0.true);
      division = whole m;
    }

pub returns : goal.returns
returns c =
    record {
      value = rw (from_lowest c.args.a c.loop-i.i c.loop-i-test.false) at c.loop-i.invariant;
      division = whole c.args.self.now;
    }
