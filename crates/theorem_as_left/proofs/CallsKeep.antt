-- Every call keeps a segment sound.
use mathlib.Core.Path.{sym, subst}
use mathlib.Core.List.{List, [], ◌++◌}
use Prim.Native.Nat.{ℕ, ◌≤◌, min}
use native.Mathlib.Omega.{arith}
use lib.ListN.{length, length-drop}
use Rattle.laws.proofs.Lists.{if_with}
use Rattle.frame.specs.Frame.{Telegram, encode}
use Rattle.frame.specs.Theorems.{Incomplete}
use Rattle.frame.proofs.Worked.{of_nothing}
use Rattle.time_clock.specs.declared.Clock.{Clock}
use Rattle.meter.specs.Meter.{rates}
use Rattle.list_check.specs.Tables.{is_rate_value}
use Rattle.segment.specs.Plain.{Plain, with_input, with_queue}
use Rattle.segment.specs.Calls.{Done, receive, clear, change_baud}
use Rattle.segment_send.specs.Steps.{handled_all}
use Rattle.segment_send.specs.Send.{send}
use Rattle.segment_send.proofs.SendLaws.{steps_keeps, send_all}
use Rattle.segment_send.proofs.DueLaws.{handled_all_waits}
use Rattle.search_walk.specs.Walk.{mask, reading, ask, probe, read, Walked, whole_walk}
use Rattle.search_walk.proofs.Keeps.{walk_keeps}
use Rattle.search_walk.proofs.Upward.{walk_down, whole-down}
use Rattle.search.specs.declared.EntryRecord.{EntryRecord}
use Rattle.search.specs.SearchCall.{Searched, search_call}
use Rattle.search.proofs.Allowed.{search_cases}
use Rattle.c_search.specs.Searches.{search_by, records_for}
use Rattle.theorem_calls.specs.Call.{opening, sending, receiving, clearing, changing, searching, searching_into, after_call}
use Rattle.theorem_as_left.specs.Left.{Sound, CallsKeepSound}
use Rattle.theorem_as_left.proofs.OpeningSound.{opening_sound}
use Rattle.theorem_as_left.proofs.TelegramsKeep.{SoundBus, handled_sound}

-- ---- send

bus_of : (s : Plain) → Sound s → SoundBus s
bus_of s h = record { baud = h.baud; few = h.few; meters = h.meters }

sound_of : (s : Plain) → SoundBus s → Incomplete s.input → length s.queue ≤ 4096 → Sound s
sound_of s h w q = record { baud = h.baud; waits = w; queued = q; few = h.few; meters = h.meters }

all_handled : (k : Clock) (s : Plain) → SoundBus s → SoundBus (handled_all k s)
unfolding handled_all
all_handled k s h = steps_keeps SoundBus handled_sound (λ u g. g) (length s.input) k s h

send_sound : (piece : List ℕ) (k : Clock) (s : Plain) → Sound s → Sound (send piece k s).segment
send_sound piece k s h =
    let joined = with_input (s.input ++ piece) s in
    send_all Sound piece k s h (sound_of (handled_all k joined) (all_handled k joined (bus_of s h)) (handled_all_waits k joined))

-- ---- receive, clear, baud change

other_queue : (q : List ℕ) (s : Plain) → length q ≤ 4096 → Sound s → Sound (with_queue q s)
other_queue q s l h = record { baud = h.baud; waits = h.waits; queued = l; few = h.few; meters = h.meters }

receive_sound : (lent : List ℕ) (s : Plain) → Sound s → Sound (receive lent s).segment
unfolding receive
receive_sound lent s h = other_queue _ s (omega (arith, h.queued, length-drop (min 32 (min (length lent) (length s.queue))) s.queue)) h

clear_sound : (s : Plain) → Sound s → Sound (clear s)
unfolding clear
clear_sound s h = other_queue [] s (omega arith) h

baud_sound : (b : ℕ) (s : Plain) → Sound s → Sound (change_baud b s).segment
unfolding change_baud
baud_sound b s h =
    if_with (λ (d : Done). Sound d.segment) (is_rate_value rates b) _ _ (λ r. record { baud = r; waits = (1, of_nothing); queued = h.queued; few = h.few; meters = h.meters }) (λ r. h)

-- ---- a search sends, and takes every reply whole

ask_sound : (k : Clock) (t : Telegram) (s : Plain) → Sound s → Sound (ask k t s).1
unfolding ask
ask_sound k t s h = other_queue [] (send (encode t) k s).segment (omega arith) (send_sound (encode t) k s h)

probe_sound : (k : Clock) (p : List ℕ) (s : Plain) → Sound s → Sound (probe k p s).1
unfolding probe
probe_sound k p s h = ask_sound k (mask p) s h

read_sound : (k : Clock) (p : List ℕ) (s : Plain) → Sound s → Sound (read k p s).1
unfolding read
read_sound k p s h = ask_sound k reading s h

walk_sound : (k : Clock) (a : ℕ) (s : Plain) → Sound s → Sound (whole_walk k a s).segment
unfolding walk_down
walk_sound k a s h =
    subst (λ (w : Walked). Sound w.segment) (sym (whole-down k a s)) (walk_keeps Plain (probe k) (read k) Sound (probe_sound k) (read_sound k) 8 [] a s h)

search_sound : (k : Clock) (a : ℕ) (lent : List EntryRecord) (s : Plain) → Sound s → Sound (search_call k a lent s).segment
search_sound k a lent s h = search_cases k a lent s (λ (r : Searched). Sound r.segment) (λ n l. h) (λ w. walk_sound k a s h)

-- ---- every call

pub after_sound : CallsKeepSound
unfolding after_call search_by
after_sound (opening list bus practice origin) s f h = opening_sound bus practice list origin s f.0.0 h
after_sound (sending piece k) s f h = send_sound piece k s h
after_sound (receiving lent) s f h = receive_sound lent s h
after_sound clearing s f h = clear_sound s h
after_sound (changing b) s f h = baud_sound b s h
after_sound (searching k a entries summary) s f h = search_sound k a (records_for entries) s h
after_sound (searching_into k a lent) s f h = search_sound k a lent s h
