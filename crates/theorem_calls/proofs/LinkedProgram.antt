-- An environment that has the program's code, out of any look-up that has it (`theorem_calls/specs/Made: HasProgram`).
--     look              what stands at each name: a function's code, a foreign routine, or nothing
--     HasT look true c  the look-up has, each at its name, the functions of the code c and of all code that c names
--     tie_t look        the environment that does at each name what the look-up has there
-- That the look-up of a linked program has the code of its functions is checked for each crate with the crate, in a
-- module TheLink that the check makes; a crate cannot name that module.
use mir.Syntax.{Symbol}
use mathlib.Core.Bool.{true}
use prog.Wired.{Code, Wired}
use prog.Linked.{Entry}
use prog.LinkedThreads.{HasT, has-wired_t, tie_t, tie_t-follows, tie_t-threads}
use Rattle.theorem_calls.specs.Made.{HasProgram}
use Rattle.search.proofs.search.Symbol.{code as search-into-code}
use Rattle.jezynar.proofs.jezynar_segment_new.Symbol.{code as new-code}
use Rattle.jezynar.proofs.jezynar_segment_open.Symbol.{code as open-code}
use Rattle.jezynar.proofs.jezynar_segment_send.Symbol.{code as send-code}
use Rattle.jezynar.proofs.jezynar_segment_receive.Symbol.{code as receive-code}
use Rattle.jezynar.proofs.jezynar_segment_clear.Symbol.{code as clear-code}
use Rattle.jezynar.proofs.jezynar_segment_set_baud.Symbol.{code as set-baud-code}
use Rattle.jezynar.proofs.jezynar_segment_search.Symbol.{code as search-code}

pub has_program : (look : Symbol → Entry) → HasT look true new-code → HasT look true open-code → HasT look true send-code → HasT look true receive-code
    → HasT look true clear-code → HasT look true set-baud-code → HasT look true search-code → HasT look true search-into-code → HasProgram (tie_t look)
has_program look has_new has_open has_send has_receive has_clear has_set_baud has_search has_search_into =
    record {
      at_new = wired new-code has_new;
      at_open = wired open-code has_open;
      at_send = wired send-code has_send;
      at_receive = wired receive-code has_receive;
      at_clear = wired clear-code has_clear;
      at_set_baud = wired set-baud-code has_set_baud;
      at_search = wired search-code has_search;
      at_search_into = wired search-into-code has_search_into;
    }
  where
    wired : (c : Code) → HasT look true c → Wired (tie_t look) c
    wired = has-wired_t look (tie_t look) (tie_t-follows look) (tie_t-threads look)
