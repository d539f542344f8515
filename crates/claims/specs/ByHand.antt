-- The contracts of crate lent's public functions, in both readings: as they are written, over the program logic (`Admits`), and plainly, as the check
-- reads them and as all other claims take them (`Gives`, Outcomes.antt). In each reading they admit exactly the outcomes that their definitions say, no
-- other, and all of these. So both readings admit the same outcomes, and what is claimed of these is claimed of something.
use seplogic.Ra.Ura.{Ura}
use base.Logic.{SProp, ent}
use prog.Memory.{Memory}
use prog.Routine.{Routine}
use types.Logic.{Logic}
use contract.Monad.{Fun, fact}
use denote.Triple.Clauses.{Ended, AtExit}
use denote.Triple.Entry.{Args, Res}
use Rattle.std.specs.Prelude.{ℕ, List, ◌↔◌, ◌≡◌, Result}
use Rattle.std.specs.Borrow.{Bor, MutBor}
use contract.Lifetimes.{Lfts}
use Rattle.table.specs.Answers.{Answer}
use Rattle.table.specs.Table.{length_of}
use Rattle.table.specs.declared.rules.Rules.{Rules}
use Rattle.payloads.specs.Commands.{sent_up, sent_down}
use Rattle.walk.specs.Step.{Found, Heading}
use Rattle.walk.specs.Told.{told_step}
use Rattle.walk.specs.declared.step.Step.{Step}
use Rattle.build.specs.Build.{Built, total_of, build_of}
use Rattle.build.specs.Told.{told_build, told_handed}
use Rattle.build.specs.declared.handed.Handed.{Handed}
use Rattle.build.specs.declared.list.BuildError.{BuildError}
use Rattle.build.specs.declared.record.Record.{Record}
use Rattle.lent.specs.Iterator.{fresh, nexted, nexted_record, nth_answer}
use Rattle.lent.specs.Records.{items_of}
use Rattle.lent.specs.declared.iterator.MacCommandIterator.{MacCommandIterator}
use Rattle.lent.specs.contracts.iterator.MacCommandIterator.new as new
use Rattle.lent.specs.contracts.iterator.MacCommandIterator.next as next
use Rattle.lent.specs.contracts.iterator.MacCommandIterator.next_record as next_record
use Rattle.lent.specs.contracts.iterator.MacCommandIterator.data as stream
use Rattle.lent.specs.contracts.iterator.MacCommandIterator.index as index
use Rattle.lent.specs.contracts.iterator.parse_uplink_mac_commands as parse_uplink
use Rattle.lent.specs.contracts.iterator.parse_downlink_mac_commands as parse_downlink
use Rattle.lent.specs.contracts.iterator.nth_step as nth_step
use Rattle.lent.specs.contracts.records.records_len as records_len
use Rattle.lent.specs.contracts.records.build_records as build_records
use Rattle.lent.specs.contracts.records.build_four as build_four
use Rattle.lent.proofs.Fixing.{AnyClauses}
use Rattle.lent.proofs.iterator.MacCommandIterator.new.Reads.{Post as new_post}
use Rattle.lent.proofs.iterator.MacCommandIterator.next.Reads.{Post as next_post}
use Rattle.lent.proofs.iterator.MacCommandIterator.next_record.Reads.{Post as next_record_post}
use Rattle.lent.proofs.iterator.MacCommandIterator.data.Reads.{Post as stream_post}
use Rattle.lent.proofs.iterator.MacCommandIterator.index.Reads.{Post as index_post}
use Rattle.lent.proofs.iterator.parse_uplink_mac_commands.Reads.{Post as parse_up_post}
use Rattle.lent.proofs.iterator.parse_downlink_mac_commands.Reads.{Post as parse_down_post}
use Rattle.lent.proofs.iterator.nth_step.Reads.{Post as nth_step_post}
use Rattle.lent.proofs.records.records_len.Reads.{Post as records_len_post}
use Rattle.lent.proofs.records.build_records.Reads.{Post as build_records_post}
use Rattle.lent.proofs.records.build_four.Reads.{Post as build_four_post}
use Rattle.claims.specs.Outcomes.{Gives, GivesWith}

-- a contract as it is written, over the program logic, admits an outcome: whatever proposition its
-- `ensures` says of the outcome, in every model of memory, is so. (A fact in the program logic is known without its proof, so of a type that
-- has several proofs it tells none.)
abbrev pub Admits : (T : Ended) → AnyClauses T → (κs : Lfts T.signature.lifetimes) → Args T.signature κs → Res T.signature κs → AtExit T κs → Type 2
Admits T clauses κs a x exit =
    (φ : Type 0) → IsProp φ
    → ((M : Type 1) (𝓤 : Ura M) (𝓛 : Logic 𝓤) (mem : Memory → SProp 𝓤) (run : Routine → Fun 𝓤) (g : (clauses M 𝓤 𝓛 mem run κs a).ghost)
    → ent 𝓤 ((clauses M 𝓤 𝓛 mem run κs a).ensures g x exit) (fact 𝓤 φ))
    → φ

-- one is so exactly where the other is
abbrev pub Exactly : Type 2 → Type 0 → Type 2
Exactly A B = (A → B) × (B → A)

pub record ByHand : Type 2 where
  -- as they are written
  pub new : (κs : Lfts 1) (s : Bor (List ℕ)) (rules : Rules) (it : MacCommandIterator) (exit : _)
      → Exactly (Admits new.ended (λ M 𝓤 𝓛. new.clauses 𝓛) κs (s, (rules, tt)) it exit) (it ≡ fresh s rules)
  pub parse_up : (κs : Lfts 1) (s : Bor (List ℕ)) (it : MacCommandIterator) (exit : _)
      → Exactly (Admits parse_uplink.ended (λ M 𝓤 𝓛. parse_uplink.clauses 𝓛) κs (s, tt) it exit) (it ≡ fresh s sent_up)
  pub parse_down : (κs : Lfts 1) (s : Bor (List ℕ)) (it : MacCommandIterator) (exit : _)
      → Exactly (Admits parse_downlink.ended (λ M 𝓤 𝓛. parse_downlink.clauses 𝓛) κs (s, tt) it exit) (it ≡ fresh s sent_down)
  pub next : (κs : Lfts 2) (it : MutBor MacCommandIterator) (r : Step) (exit : MutBor MacCommandIterator × Unit)
      → Exactly (Admits next.ended (λ M 𝓤 𝓛. next.clauses 𝓛) κs (it, tt) r exit)
      (◌≡◌ {A = Answer (Found Heading) × MacCommandIterator} (told_step r, exit.0.now) (nexted it.now))
  pub next_record : (κs : Lfts 2) (it : MutBor MacCommandIterator) (frame : ℕ) (r : Handed) (exit : MutBor MacCommandIterator × (ℕ × Unit))
      → Exactly (Admits next_record.ended (λ M 𝓤 𝓛. next_record.clauses 𝓛) κs (it, (frame, tt)) r exit)
      (◌≡◌ {A = (Answer (Found Heading) × Record) × MacCommandIterator} (told_handed r, exit.0.now) (nexted_record frame it.now))
  pub stream : (κs : Lfts 1) (it : MacCommandIterator) (s : Bor (List ℕ)) (exit : MacCommandIterator × Unit)
      → Exactly (Admits stream.ended (λ M 𝓤 𝓛. stream.clauses 𝓛) κs (it, tt) s exit) (s ≡ it.«data»)
  pub index : (κs : Lfts 1) (it : MacCommandIterator) (at : ℕ) (exit : MacCommandIterator × Unit)
      → Exactly (Admits index.ended (λ M 𝓤 𝓛. index.clauses 𝓛) κs (it, tt) at exit) (at ≡ it.index)
  pub nth_step : (κs : Lfts 1) (rules : Rules) (s : Bor (List ℕ)) (n : ℕ) (r : Step) (exit : Rules × (Bor (List ℕ) × (ℕ × Unit)))
      → Exactly (Admits nth_step.ended (λ M 𝓤 𝓛. nth_step.clauses 𝓛) κs (rules, (s, (n, tt))) r exit) (told_step r ≡ nth_answer (length_of rules) s.now n)
  pub records_len : (κs : Lfts 1) (rules : Rules) (records : Bor (List Record)) (r : Result ℕ BuildError) (exit : Rules × (Bor (List Record) × Unit))
      → Exactly (Admits records_len.ended (λ M 𝓤 𝓛. records_len.clauses 𝓛) κs (rules, (records, tt)) r exit)
      (told_build r ≡ total_of (length_of rules) (items_of records.now))
  pub build_records : (κs : Lfts 2) (rules : Rules) (records : Bor (List Record)) (out : MutBor (List ℕ)) (r : Result ℕ BuildError)
      (exit : Rules × (Bor (List Record) × (MutBor (List ℕ) × Unit)))
      → Exactly (Admits build_records.ended (λ M 𝓤 𝓛. build_records.clauses 𝓛) κs (rules, (records, (out, tt))) r exit)
      (◌≡◌ {A = Built × List ℕ} (told_build r, exit.1.1.0.now) (build_of (length_of rules) (items_of records.now) out.now))
  pub build_four : (κs : Lfts 1) (rules : Rules) (records : List Record) (out : MutBor (List ℕ)) (r : Result ℕ BuildError)
      (exit : Rules × (List Record × (MutBor (List ℕ) × Unit)))
      → Exactly (Admits build_four.ended (λ M 𝓤 𝓛. build_four.clauses 𝓛) κs (rules, (records, (out, tt))) r exit)
      (◌≡◌ {A = Built × List ℕ} (told_build r, exit.1.1.0.now) (build_of (length_of rules) (items_of records) out.now))
  -- read plainly
  pub new_read : (s : Bor (List ℕ)) (rules : Rules) (it : MacCommandIterator) → Gives new_post (s, (rules, tt)) it ↔ (it ≡ fresh s rules)
  pub parse_up_read : (s : Bor (List ℕ)) (it : MacCommandIterator) → Gives parse_up_post (s, tt) it ↔ (it ≡ fresh s sent_up)
  pub parse_down_read : (s : Bor (List ℕ)) (it : MacCommandIterator) → Gives parse_down_post (s, tt) it ↔ (it ≡ fresh s sent_down)
  pub next_read : (it : MutBor MacCommandIterator) (r : Step) (it' : MacCommandIterator)
      → GivesWith (λ s. s.0.now) next_post (it, tt) r it'
      ↔ (◌≡◌ {A = Answer (Found Heading) × MacCommandIterator} (told_step r, it') (nexted it.now))
  pub next_record_read : (it : MutBor MacCommandIterator) (frame : ℕ) (r : Handed) (it' : MacCommandIterator)
      → GivesWith (λ s. s.0.now) next_record_post (it, (frame, tt)) r it'
      ↔ (◌≡◌ {A = (Answer (Found Heading) × Record) × MacCommandIterator} (told_handed r, it') (nexted_record frame it.now))
  pub stream_read : (it : MacCommandIterator) (s : Bor (List ℕ)) → Gives stream_post (it, tt) s ↔ (s ≡ it.«data»)
  pub index_read : (it : MacCommandIterator) (at : ℕ) → Gives index_post (it, tt) at ↔ (at ≡ it.index)
  pub nth_step_read : (rules : Rules) (s : Bor (List ℕ)) (n : ℕ) (r : Step)
      → Gives nth_step_post (rules, (s, (n, tt))) r ↔ (told_step r ≡ nth_answer (length_of rules) s.now n)
  pub records_len_read : (rules : Rules) (records : Bor (List Record)) (r : Result ℕ BuildError)
      → Gives records_len_post (rules, (records, tt)) r ↔ (told_build r ≡ total_of (length_of rules) (items_of records.now))
  pub build_records_read : (rules : Rules) (records : Bor (List Record)) (out : MutBor (List ℕ)) (r : Result ℕ BuildError) (after : List ℕ)
      → GivesWith (λ s. s.1.1.0.now) build_records_post (rules, (records, (out, tt))) r after
      ↔ (◌≡◌ {A = Built × List ℕ} (told_build r, after) (build_of (length_of rules) (items_of records.now) out.now))
  pub build_four_read : (rules : Rules) (records : List Record) (out : MutBor (List ℕ)) (r : Result ℕ BuildError) (after : List ℕ)
      → GivesWith (λ s. s.1.1.0.now) build_four_post (rules, (records, (out, tt))) r after
      ↔ (◌≡◌ {A = Built × List ℕ} (told_build r, after) (build_of (length_of rules) (items_of records) out.now))
