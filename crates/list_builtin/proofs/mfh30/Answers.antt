-- `list_builtin::mfh30` meets its contract.
use mathlib.Core.Path.{refl}
use Rattle.list.specs.Written.{write_texts, write_rest, write_records_value, write_list_value}
use Rattle.list_builtin.specs.Builtins.{id_text, mfh30}
use Rattle.list_builtin.proofs.mfh30.Goals as goal

pub returns : goal.returns
unfolding mfh30 id_text write_list_value write_records_value write_rest write_texts
returns c = refl
