-- Each built-in list opens at 2400, with its number of meters; and the seed of (i).
use mathlib.Core.Path.{◌≡◌, refl}
use mathlib.Core.Bool.{false}
use mathlib.Core.List.{[], ◌∷◌}
use Prim.Native.Nat.{ℕ}
use lib.ListN.{length}
use Rattle.list.specs.Written.{write_texts, write_rest, write_records_value, write_list_value}
use Rattle.meter.specs.Meter.{rates}
use Rattle.meter_identity.specs.Identity.{in_base}
use Rattle.list_check.specs.Tables.{media, faults}
use Rattle.list_builtin.specs.Builtins.{praxis, ok10, mfh30, bauds, id_text}
use Rattle.list.specs.Layout.{read_texts, read_records}
use Rattle.list_check.specs.Check.{good_id_value, good_manufacturer_value, check}
use Rattle.list_open.specs.Opening.{capacity, Opened, opens, meters_in, open_records, open_list_value}
use Rattle.list_meter.specs.Fresh.{seed_of_value}

-- the list opens, with n meters
pub record OpensWith (n : ℕ) (o : Opened) : Type 0 where
  pub is : o ≡ opens (meters_in o)
  pub count : length (meters_in o) ≡ n

pub praxis_opens : OpensWith 20 (open_list_value praxis 2400 false)
unfolding praxis id_text write_list_value write_records_value write_rest write_texts open_list_value open_records read_records read_texts check good_id_value good_manufacturer_value media faults rates capacity
praxis_opens = record { is = refl; count = refl }

pub ok10_opens : OpensWith 10 (open_list_value ok10 2400 false)
unfolding ok10 id_text write_list_value write_records_value write_rest write_texts open_list_value open_records read_records read_texts check good_id_value good_manufacturer_value media faults rates capacity
ok10_opens = record { is = refl; count = refl }

pub mfh30_opens : OpensWith 30 (open_list_value mfh30 2400 false)
unfolding mfh30 id_text write_list_value write_records_value write_rest write_texts open_list_value open_records read_records read_texts check good_id_value good_manufacturer_value media faults rates capacity
mfh30_opens = record { is = refl; count = refl }

pub bauds_opens : OpensWith 8 (open_list_value bauds 2400 false)
unfolding bauds id_text write_list_value write_records_value write_rest write_texts open_list_value open_records read_records read_texts check good_id_value good_manufacturer_value media faults rates capacity
bauds_opens = record { is = refl; count = refl }

-- (i) id 12345678: seed 43,672
pub seed_i : seed_of_value false (1 ∷ 2 ∷ 3 ∷ 4 ∷ 5 ∷ 6 ∷ 7 ∷ 8 ∷ []) ≡ 43672
unfolding seed_of_value in_base
seed_i = refl
