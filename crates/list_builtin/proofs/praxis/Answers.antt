-- `list_builtin::praxis` meets its contract.
use mathlib.Core.Path.{refl}
use Rattle.list.specs.Written.{write_texts, write_rest, write_records_value, write_list_value}
use Rattle.list_builtin.specs.Builtins.{id_text, praxis}
use Rattle.list_builtin.proofs.praxis.Goals as goal

pub returns : goal.returns
unfolding praxis id_text write_list_value write_records_value write_rest write_texts
returns c = refl
