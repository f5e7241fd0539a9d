use Rattle.numbers.specs.Values.{little}
use Rattle.time_dates.specs.Dates.{type_g_value}
use Rattle.meter_data.specs.UserData.{heat_second_value}
use Rattle.meter_data.proofs.PutLaws.{both, value_as}
use Rattle.meter_data.proofs.heat_second.Goals as goal

pub returns : goal.returns
unfolding heat_second_value little type_g_value
returns c =
    both c.put.ensures.bytes
    (both (value_as c.to_le_bytes.ensures c.put_record.ensures.bytes)
    (both c.put-2.ensures.bytes
    (both (value_as c.type_g.ensures c.put_record-2.ensures.bytes) c.put_record-3.ensures.bytes)))
