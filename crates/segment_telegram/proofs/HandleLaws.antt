-- A telegram handled on an image, from what the sweep and the queue came to.
use Rattle.std.specs.Prelude.{Result, Ok, Err, if◌then◌else◌}
use mathlib.Core.Path.{◌≡◌, refl, sym, ap, ap₂, subst, ◌∙◌}
use mathlib.Core.Bool.{Bool, true, false}
use mathlib.Core.List.{List, [], ◌∷◌, ◌++◌, map}
use Prim.Native.Nat.{ℕ, ◌+◌, ◌*◌, ◌≤◌}
use native.Mathlib.Omega.{arith}
use lib.Dec.{eqb}
use lib.Ieee.{Float}
use lib.ListN.{length, length-append, length-map}
use Rattle.laws.proofs.Lists.{if_all}
use Rattle.frame.specs.Frame.{Telegram, ack, short, long}
use Rattle.time_seconds.specs.Seconds.{elapsed_of_value}
use Rattle.meter.specs.PlainMeter.{PlainMeter}
use Rattle.meter_step.specs.Hear.{Heard, quiet, listens, hear}
use Rattle.time_clock.specs.declared.Clock.{Clock}
use Rattle.segment.specs.Plain.{Plain, with_meters, with_queue}
use Rattle.segment_replies.specs.declared.Joining.{Joining}
use Rattle.segment_replies.specs.Replies.{joined}
use Rattle.segment_replies.specs.ProgramJoining.{bytes_kept}
use Rattle.segment_replies.proofs.JoiningLaws.{joined_is, length_kept, length_kept_lem}
use Rattle.segment_image.specs.Image.{decode_image}
use Rattle.segment_places.specs.declared.queue.QueueFull.{QueueFull}
use Rattle.segment_places.specs.ProgramBecomes.{Becomes, Queues}
use Rattle.segment_places.proofs.Becoming.{becomes_as, becomes_then}
use Rattle.segment_places.proofs.PlaceLaws.{meters_few}
use Rattle.segment_telegram.specs.Handled.{with_reply, replies, to_broadcast_value, heard_by, handled}
use Rattle.segment_telegram.specs.ProgramSweep.{Sweeps}
use Rattle.segment_telegram.specs.ProgramComes.{may_reply, Handles}
use Rattle.segment_telegram.proofs.RepliesLaws.{replies_few}

-- ---- an ACK

joined-none : joined [] ≡ []
unfolding joined
joined-none = refl

ack_quiet : (bus : ℕ) (e : Float) (k : Clock) (m : PlainMeter) → hear bus ack e k m ≡ quiet m
unfolding hear listens
ack_quiet bus e k m = if_all (λ (h : Heard). h ≡ quiet m) (eqb m.baud bus) _ _ refl refl

-- nobody replies to it
ack_unheard : (k : Clock) (s : Plain) → replies (heard_by ack k s) ≡ []
unfolding heard_by
ack_unheard k s = go s.meters
  where
    go : (ms : List PlainMeter) → replies (map (hear s.baud ack (elapsed_of_value k.now s.origin) k) ms) ≡ []
    go [] = refl
    go (m ∷ ms) = ap (λ h. with_reply h.reply (replies (map (hear s.baud ack (elapsed_of_value k.now s.origin) k) ms))) (ack_quiet s.baud (elapsed_of_value k.now s.origin) k m) ∙ go ms

-- ---- a telegram

module _ (t : Telegram) (k : Clock) {old mid : List ℕ} {kept : Joining} (w : Sweeps t k old mid kept) where
  abbrev s : Plain
  s = decode_image old

  abbrev after : Plain
  after = handled t k s.input s

  same_queue : (decode_image mid).queue ≡ s.queue
  same_queue = ap (λ p. p.queue) w.becomes.means

  heard_many : length (heard_by t k s) ≡ length s.meters
  unfolding heard_by
  heard_many = length-map s.meters (hear s.baud t (elapsed_of_value k.now s.origin) k)

  -- a reply has 96 bytes at most
  reply_short : length_kept kept ≤ 96
  reply_short =
      let few : kept.count ≤ 64 = omega (arith, w.joins.count, replies_few (heard_by t k s), heard_many, meters_few old) in
      go kept.acks few w.joins.fits
    where
      go : (b : Bool) → kept.count ≤ 64 → kept.len ≤ 96 → (if b then kept.count else kept.len) ≤ 96
      go true f g = omega arith
      go false f g = g

  -- that to an ACK has none
  reply_within : length_kept kept ≤ 96 * may_reply t
  reply_within = go t refl
    where
      go : (u : Telegram) → t ≡ u → length_kept kept ≤ 96 * may_reply u
      go ack e = omega (arith, sym (length_kept_lem w.joins), ap length (sym (joined_is w.joins) ∙ ap (λ x. joined (replies (heard_by x k s))) e ∙ ap joined (ack_unheard k s) ∙ joined-none))
      go (short c a) e = reply_short
      go (long c a ci d) e = reply_short

  pub handled_all_lem : true ≡ to_broadcast_value t → Handles t after old (Ok tt) mid
  unfolding handled
  handled_all_lem e =
      let same : with_meters (map (λ h. h.meter) (heard_by t k s)) s ≡ after =
      ap (λ b. with_queue (if b then s.queue else s.queue ++ joined (replies (heard_by t k s))) (with_meters (map (λ h. h.meter) (heard_by t k s)) s)) e in
      record {
        comes =
            record {
              done = becomes_as same w.becomes;
              full = tt;
              bound = tt;
              grows = omega (arith, ap (λ p. length p.queue) same);
            };
        left = tt;
      }

  module _ (e : false ≡ to_broadcast_value t) where
    after_is : after ≡ with_queue ((decode_image mid).queue ++ bytes_kept kept) (decode_image mid)
    unfolding handled
    after_is =
        ap (λ b. with_queue (if b then s.queue else s.queue ++ joined (replies (heard_by t k s))) (with_meters (map (λ h. h.meter) (heard_by t k s)) s)) (sym e)
        ∙ ap₂ (λ x y. with_queue (x ++ y) (with_meters (map (λ h. h.meter) (heard_by t k s)) s)) (sym same_queue) (joined_is w.joins)
        ∙ ap (with_queue ((decode_image mid).queue ++ bytes_kept kept)) (sym w.becomes.means)

    after_long : length after.queue ≡ length s.queue + length_kept kept
    after_long =
        ap (λ p. length p.queue) after_is
        ∙ length-append (decode_image mid).queue (bytes_kept kept)
        ∙ ap₂ (λ x y. x + y) (ap length same_queue) (length_kept_lem w.joins)

    -- its reply joins the queue, or does not fit
    pub handled_queues : (r : Result (Unit {0}) QueueFull) {new : List ℕ} → Queues (bytes_kept kept) mid r new → Handles t after old r new
    unfolding handled
    handled_queues (Ok done) q =
        record {
          comes = record { done = becomes_as (sym after_is) (becomes_then w.becomes q.done); full = tt; bound = tt; grows = omega (arith, after_long, reply_within) };
          left = tt;
        }
    handled_queues (Err why) {new} q =
        let l = length_kept_lem w.joins in
        let full = q.full in
        record {
          comes =
              record {
                done = tt;
                full = omega (arith, full, after_long, ap length same_queue, l);
                bound = omega (arith, full, reply_within, ap length same_queue, l);
                grows = tt;
              };
          left = subst (Becomes old (with_queue s.queue after)) (sym q.stays) w.becomes;
        }
