use Rattle.std.proofs.Common.{◌≡◌, ℕ, ◌/◌, ◌%◌, ◌^◌, arith}
use Rattle.access_log.proofs.printer.line_with.Goals as goal

-- the digits of a byte, as digits of the word
seventh : (v : ℕ) → v / 256 ^ 3 % 256 / 16 % 16 ≡ v / 16 / 16 / 16 / 16 / 16 / 16 / 16 % 16
seventh v = omega arith

sixth : (v : ℕ) → v / 256 ^ 3 % 256 % 16 ≡ v / 16 / 16 / 16 / 16 / 16 / 16 % 16
sixth v = omega arith

fifth : (v : ℕ) → v / 256 ^ 2 % 256 / 16 % 16 ≡ v / 16 / 16 / 16 / 16 / 16 % 16
fifth v = omega arith

fourth : (v : ℕ) → v / 256 ^ 2 % 256 % 16 ≡ v / 16 / 16 / 16 / 16 % 16
fourth v = omega arith

third : (v : ℕ) → v / 256 ^ 1 % 256 / 16 % 16 ≡ v / 16 / 16 / 16 % 16
third v = omega arith

second : (v : ℕ) → v / 256 ^ 1 % 256 % 16 ≡ v / 16 / 16 % 16
second v = omega arith

first : (v : ℕ) → v % 256 / 16 % 16 ≡ v / 16 % 16
first v = omega arith

zeroth : (v : ℕ) → v % 256 % 16 ≡ v % 16
zeroth v = omega arith

pub returns : goal.returns
returns c =
    let v = c.args.value in
    record {
      line =
          rw (
            c.digit.ensures.digit,
            c.digit-2.ensures.digit,
            c.digit-3.ensures.digit,
            c.digit-4.ensures.digit,
            c.digit-5.ensures.digit,
            c.digit-6.ensures.digit,
            c.digit-7.ensures.digit,
            c.digit-8.ensures.digit,
            c.digit-9.ensures.digit,
            c.digit-10.ensures.digit,
            c.to_be_bytes.ensures,
            seventh v,
            sixth v,
            fifth v,
            fourth v,
            third v,
            second v,
            first v,
            zeroth v,
          );
    }
