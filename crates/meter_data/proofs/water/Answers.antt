use mathlib.Core.Path.{sym}
use Rattle.numbers.specs.Values.{bcd}
use Rattle.time_dates.specs.Dates.{type_f_value, type_g_value}
use Rattle.meter_data.specs.UserData.{water, clock_f}
use Rattle.meter_data.proofs.PutLaws.{both, value_as}
use Rattle.meter_data.proofs.water.Goals as goal

pub returns : goal.returns
unfolding water clock_f bcd type_f_value type_g_value
returns c =
    rw (sym c.from-seed.ensures, sym c.from-t.ensures)
    (both (value_as c.bcd4.ensures c.put_record.ensures.bytes)
    (both (value_as c.bcd4-2.ensures c.put_record-2.ensures.bytes)
    (both (value_as c.type_g.ensures c.put_record-3.ensures.bytes) (value_as c.time_of.ensures c.put_record-4.ensures.bytes))))
