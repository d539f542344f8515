-- P1 to P15 and P17 hold: of the definitions, where each side computes, and so of every outcome that the contracts admit. Assumes nothing.
use Prim.Native.Nat.{ℕ}
use mathlib.Core.Bool.{Bool}
use mathlib.Core.List.{List, [], ◌∷◌, ◌++◌, map}
use mathlib.Core.Path.{◌≡◌, refl, ap, ◌∙◌, subst}
use Rattle.std.specs.Prelude.{Result, Ok, Err}
use Rattle.bits.specs.Every.{Every}
use Rattle.table.specs.Answers.{given, refused, accepted}
use Rattle.table.specs.Table.{length_of, named}
use Rattle.table.specs.Told.{told}
use Rattle.table.specs.declared.refusal.Refusal.{Refusal}
use Rattle.table.specs.declared.rules.Direction.TheVariants.{Up}
use Rattle.table.specs.declared.rules.Rules.{Rules}
use Rattle.fields.specs.Frequency.{bytes_of, hertz}
use Rattle.fields.specs.Lists.{exactly, tabulate}
use Rattle.fields.specs.Mask.{enabled_of, set_channel}
use Rattle.fields.specs.Places.{tx_param_setup_req_max_eirp, tx_param_setup_req_downlink_dwell_time}
use Rattle.fields.specs.Settings.{range_of}
use Rattle.fields.specs.declared.frequency.Frequency.{Frequency}
use Rattle.payloads.specs.Acceptance.{link_adr_ans_accepts, new_channel_ans_accepts, dl_channel_ans_accepts}
use Rattle.payloads.specs.Meanings.{margin_of, max_eirp_of, seconds_of}
use Rattle.creators.specs.Image.{new_of, put_at, put_bytes, checked_at}
use Rattle.creators.specs.Setters.{is_margin, margin_at, dwell_at, low_bytes, seconds_at, nano_seconds_at}
use Rattle.walk.specs.Walk.{Walk, go, walk_of}
use Rattle.build.specs.Build.{sum_from, build_of}
use Rattle.build.specs.Equal.{EqualLists}
use Rattle.build.specs.Handed.{from_frame}
use Rattle.build.specs.Records.{held_by, recs_in, slots_of}
use Rattle.lent.specs.Records.{items_of}
use Rattle.claims.specs.Examples.{
  Answering,
  LinkADRAns,
  NewChannelAns,
  DlChannelAns,
  Example,
  reads,
  hands,
  frequency,
  margin_reads,
  no_margin,
  says,
  nano_seconds,
  power_then_dwell,
  seconds,
  builds,
  channel,
  channel_set,
  range,
  InHertz,
  Says,
  Holds,
  two,
  two_slots,
  p1to6,
  p7to9,
  p10to13,
  p14and15,
  p17,
  examples,
  All,
  ExamplesHold,
}
use Rattle.claims.specs.Handing.{ReadAs, HandsOut, record_steps, record_iterator}
use Rattle.claims.proofs.Building.{slots_defined, structs_defined}
use Rattle.claims.proofs.Handing as Handing
use Rattle.claims.proofs.Keeping.{both, verdict_with}
use Rattle.claims.proofs.Origins.{records_of_the_walk}

abbrev rule : Answering → List ℕ → Bool
rule LinkADRAns = link_adr_ans_accepts
rule NewChannelAns = new_channel_ans_accepts
rule DlChannelAns = dl_channel_ans_accepts

-- an example, of the definitions
abbrev Means : Example → Type 0
Means (reads d bytes cmds ending) = walk_of (length_of (record { direction = d })) bytes ≡ record { cmds = cmds; ending = ending }
Means (hands d frame bytes records ending) =
    (map (from_frame frame) (walk_of (length_of (record { direction = d })) bytes).cmds ≡ records) × ((walk_of (length_of (record { direction = d })) bytes).ending ≡ ending)
Means (frequency bytes hz) = (exactly 3 bytes ≡ given bytes) × (hertz bytes ≡ hz)
Means (margin_reads b m) = (battery : ℕ) → margin_of (battery ∷ b ∷ []) ≡ m
Means (no_margin m) = (image : List ℕ) → margin_at image m ≡ (refused 9, image)
Means (says a b it) = rule a (b ∷ []) ≡ it
Means (nano_seconds before n v after) = nano_seconds_at before n ≡ (v, after)
Means (power_then_dwell index byte dBm) =
    ((checked_at tx_param_setup_req_max_eirp 11 (new_of (named "TXParamSetupReq")) index).0 ≡ accepted)
    × (dwell_at tx_param_setup_req_downlink_dwell_time (checked_at tx_param_setup_req_max_eirp 11 (new_of (named "TXParamSetupReq")) index).1
    ≡ (named "TXParamSetupReq").cid ∷ byte ∷ [])
    × (max_eirp_of (byte ∷ []) ≡ dBm)
Means (seconds s a b c d back) =
    (seconds_at (new_of (named "DeviceTimeAns")) s ≡ (named "DeviceTimeAns").cid ∷ a ∷ b ∷ c ∷ d ∷ 0 ∷ []) × (seconds_of (a ∷ b ∷ c ∷ d ∷ 0 ∷ []) ≡ back)
Means (builds slots records before answer after) =
    EqualLists (recs_in (slots_of slots)) (map held_by records)
    × (build_of (length_of (record { direction = Up })) (slots_of slots) before ≡ (answer, after))
    × (build_of (length_of (record { direction = Up })) (items_of records) before ≡ (answer, after))
Means (channel m c on) = enabled_of m c ≡ on
Means (channel_set m c on v after) = set_channel m c on ≡ (v, after)
Means (range b r) = range_of b ≡ r

-- three bytes that are a frequency
in-hertz : (bytes : List ℕ) (hz : ℕ) → hertz bytes ≡ hz → (a : Result Frequency Refusal) → told bytes_of a ≡ given bytes → InHertz hz a
in-hertz bytes hz e (Ok f) t = λ r g. let same : bytes_of f ≡ bytes = cc in g.1.1 ∙ ap hertz same ∙ e
in-hertz bytes hz e (Err n) t = cc

says_so : (a : Answering) (b : ℕ) (it : Bool) → rule a (b ∷ []) ≡ it → Says a b it
says_so LinkADRAns b it e = λ r g. g.1.1 ∙ e
says_so NewChannelAns b it e = λ r g. g.1.1 ∙ e
says_so DlChannelAns b it e = λ r g. g.1.1 ∙ e

-- what holds of the definitions holds of the functions
of_functions : (e : Example) → Means e → Holds e
of_functions (reads d bytes cmds ending) e = λ stream same.
    subst (λ (w : Walk). ReadAs (record { direction = d }) stream w.cmds w.ending) (ap (walk_of (length_of (record { direction = d }))) same ∙ e)
    (Handing.reads (record { direction = d }) stream)
of_functions (hands d frame bytes records ending) e = λ stream same.
    let rules : Rules = record { direction = d } in
    let L = length_of rules in
    record {
      cmds = (walk_of L stream.now).cmds;
      same = ap (λ (s : List ℕ). map (from_frame frame) (walk_of L s).cmds) same ∙ e.0;
      by-offsets = subst (HandsOut (record_steps rules frame stream) (from_frame frame) (walk_of L stream.now).cmds) (ap (λ (s : List ℕ). (walk_of L s).ending) same ∙ e.1)
          (records_of_the_walk rules stream frame).by-offsets;
      by_iterator = subst (HandsOut (record_iterator rules frame stream) (from_frame frame) (walk_of L stream.now).cmds) (ap (λ (s : List ℕ). (walk_of L s).ending) same ∙ e.1)
          (records_of_the_walk rules stream frame).by_iterator;
    }
of_functions (frequency bytes hz) e = λ s same a g. in-hertz bytes hz e.1 a (g.1.1 ∙ ap (exactly 3) same ∙ e.0)
of_functions (margin_reads b m) e = λ battery r g. g.1.1 ∙ e battery
of_functions (no_margin m) e = λ c r c' g. let x = both (verdict_with (λ k. k.«data») r g.1.1.0 g.1.1.1 ∙ e c.now.«data») in (x.0, ap (λ (d : List ℕ). record { «data» = d }) x.1)
of_functions (says a b it) e = says_so a b it e
of_functions (nano_seconds before n v after) e = λ c r c' same g. both (verdict_with (λ k. k.«data») r g.1.1.0 g.1.1.1 ∙ ap (λ (d : List ℕ). nano_seconds_at d n) same ∙ e)
of_functions (power_then_dwell index byte dBm) e = record {
  set = λ c r c' d new power dwell.
      let p = verdict_with (λ k. k.«data») r power.1.1.0 power.1.1.1 ∙ ap (λ (image : List ℕ). checked_at tx_param_setup_req_max_eirp 11 image index) new.1.1 in
      (ap (λ x. x.0) p ∙ e.0, dwell.1.1 ∙ ap (λ x. dwell_at tx_param_setup_req_downlink_dwell_time x.1) p ∙ e.1);
  read = λ r g. g.1.1 ∙ e.2;
}
of_functions (seconds s a b c d back) e = record {
  set = λ x y new set. set.1.1 ∙ ap (λ (image : List ℕ). seconds_at image s) new.1.1 ∙ e.0;
  read = λ r g. g.1.1 ∙ e.1;
}
of_functions (builds slots records before answer after) e = record {
  same = e.0;
  packed = λ a o b. both ((slots_defined _ _ _ _ _ b).says ∙ e.1);
  structs = λ a o b. both ((structs_defined _ _ _ _ _ b).says ∙ e.2);
}
of_functions (channel m c on) e = λ r g. g.1.1 ∙ e
of_functions (channel_set m c on v after) e = λ k r k' same g. both (verdict_with (λ x. x.0) r g.1.1.0 g.1.1.1 ∙ ap (λ (b : List ℕ). set_channel b c on) same ∙ e)
of_functions (range b r) e = λ a g. g.1.1 ∙ e

-- ---- the list

all : (es : List Example) → Every Means es → All es
all [] m = tt
all (e ∷ es) m = (of_functions e m.0, all es m.1)

join : (es fs : List Example) → Every Means es → Every Means fs → Every Means (es ++ fs)
join [] fs m n = n
join (e ∷ es) fs m n = (m.0, join es fs m.1 n)

first : Every Means p1to6
unfolding go
first = (refl, (refl, (refl, (refl, (refl, (refl, (refl, tt)))))))

second : Every Means p7to9
unfolding is_margin margin_at
second = ((refl, refl), ((refl, refl), (λ b. refl, (λ b. refl, (λ b. refl, (λ i. refl, (λ i. refl, (refl, (refl, (refl, (refl, tt)))))))))))

-- the two records, in slots and as structs
same_two : EqualLists (recs_in (slots_of two_slots)) (map held_by two)
unfolding tabulate
same_two = (record { cid = refl; len = refl; payload = refl }, (record { cid = refl; len = refl; payload = refl }, tt))

third : Every Means p10to13
unfolding nano_seconds_at put_at put_bytes checked_at dwell_at low_bytes seconds_at sum_from tabulate
third = (refl, (refl, (refl, ((refl, refl, refl), ((refl, refl), ((same_two, refl, refl), ((same_two, refl, refl), tt)))))))

fourth : Every Means p14and15
fourth = (refl, (refl, (refl, (refl, (refl, (refl, (refl, (refl, (refl, tt)))))))))

fifth : Every Means p17
unfolding go
fifth = ((refl, refl), ((refl, refl), ((refl, refl), tt)))

pub examples_hold : ExamplesHold
examples_hold = all examples
    (join p1to6 (p7to9 ++ (p10to13 ++ (p14and15 ++ p17))) first
    (join p7to9 (p10to13 ++ (p14and15 ++ p17)) second
    (join p10to13 (p14and15 ++ p17) third
    (join p14and15 p17 fourth fifth))))
