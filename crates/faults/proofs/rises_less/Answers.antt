-- `faults::rises_less` meets its contract. Assumes nothing.
use Rattle.std.proofs.Common.{◌<◌, ◌^◌, ◌-ℤ◌, lt-ltb, rules}
use Rattle.std.specs.Int.Signed.{mag}
use Rattle.numbers.proofs.Bits.{read_back, difference_fits}
use Rattle.faults.proofs.rises_less.Goals as goal

pub returns-then-q-ne0 : goal.returns-then-q-ne0
returns-then-q-ne0 c =
    let fits : mag (c.port.result -ℤ c.port-then-q-ne0.result) < 2 ^ 63 = difference_fits c.port.result c.port-then-q-ne0.result c.port.ensures.1 c.port-then-q-ne0.ensures.1 in
    rw (
      lt-ltb 0 c.args.q (search rules),
      read_back c.port.result c.port.type_inv,
      read_back c.port-then-q-ne0.result c.port-then-q-ne0.type_inv,
      read_back (c.port.result -ℤ c.port-then-q-ne0.result) fits,
      read_back c.args.least c.ranges.least.sfits,
      c.port.ensures.0,
      c.port-then-q-ne0.ensures.0,
    )
