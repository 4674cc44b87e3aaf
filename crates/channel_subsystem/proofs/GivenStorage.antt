-- Storage that has the operand of an instruction by value, and storage with what such an instruction leaves: as large, and as
-- storage is.
use Rattle.std.proofs.Common.{◌≡◌, refl, sym, ◌∙◌, ap, subst, ℕ, zero, suc, ◌+◌, ◌*◌, ◌^◌, ◌≤◌, List, [], ◌∷◌, ◌++◌, length, map, drop, set, Option, None, Some, Result, Ok, Err, arith, length-append}
use Rattle.std.specs.Prelude.{replicate, slice_index}
use Rattle.zbits.specs.Words.{bytes_of_words}
use Rattle.std.proofs.lemmas.List.{length-drop, length-map, length-replicate, length-set}
use Rattle.std.proofs.lemmas.List.FromFn.{length-map-range_with_len}
use Rattle.storage_keys.specs.Storage.{Contents, IsAddressable, IsPrefix, absolute, absolute_addresses, cleared_storage, operand_at, operand_check, operand_stored, put_at, where_permitted, with_values}
use Rattle.storage_keys.specs.declared.StorageFault.{StorageFault}
use Rattle.scsw_irb.specs.declared.code.IntCode.{IntCode}
use Rattle.chan_events.specs.Replies.{Reply}
use Rattle.chan_events.specs.declared.reply.Reply.TheVariants as reply
use Rattle.chan_events.specs.ReportWords.{report_word}
use Rattle.machine_model.specs.OtherSteps.{code_stored, code_words}
use Rattle.io_step.specs.GivenOperands.{HasOperand, block_bytes, storage_with, with_block, with_reply}
use Rattle.io_step.specs.declared.by_value.Block.{Block}
use Rattle.io_step.specs.declared.by_value.ByValue.{ByValue}
use Rattle.io_step.specs.declared.by_value.ByValue.TheVariants as given
use Rattle.channel_subsystem.specs.Hosting.{IsHostSize, IsOfSize}

-- storage with an operand stored
length-values : (bytes ps vs : List ℕ) → length (with_values bytes ps vs) ≡ length bytes
length-values bytes [] vs = refl
length-values bytes (p ∷ ps) [] = refl
length-values bytes (p ∷ ps) (v ∷ vs) = length-values (set bytes p v) ps vs ∙ length-set bytes p v

stored-addressable : (s : Contents) (cpu address : ℕ) (values : List ℕ) → IsAddressable s → IsAddressable (operand_stored s cpu address values)
stored-addressable s cpu address values k =
    let same : length (operand_stored s cpu address values).bytes ≡ length s.bytes = length-values s.bytes (absolute_addresses s cpu address (length values)) values in
    record {
      blocks = same ∙ k.blocks;
      cpus = k.cpus;
      greatest = subst (λ (n : ℕ). n ≤ 2 ^ 31) (sym same) k.greatest;
      prefixes = λ other. subst (λ (n : ℕ). IsPrefix n (slice_index s.prefixes other)) (sym same) (k.prefixes other);
    }

pub block-addressable : (s : Contents) (cpu : ℕ) (left : Option Block) → IsAddressable s → IsAddressable (with_block s cpu 0 left)
block-addressable s cpu None k = k
block-addressable s cpu (Some block) k = stored-addressable s cpu 0 (block_bytes (Some block)) k

code-addressable : (s : Contents) (cpu : ℕ) (found : Option IntCode) → IsAddressable s → IsAddressable (code_stored s cpu 0 found)
code-addressable s cpu None k = k
code-addressable s cpu (Some code) k = stored-addressable s cpu 184 (bytes_of_words (code_words 0 code)) k

pub reply-addressable : (s : Contents) (cpu : ℕ) (r : Reply) → IsAddressable s → IsAddressable (with_reply s cpu 0 r)
reply-addressable s cpu (reply.Interruption found) k = code-addressable s cpu found k
reply-addressable s cpu (reply.ChannelReport report) k = stored-addressable s cpu 0 (bytes_of_words (report_word report ∷ [])) k
reply-addressable s cpu (reply.Paths engaged) k = stored-addressable s cpu 0 engaged k
reply-addressable s cpu reply.Done k = k
reply-addressable s cpu (reply.Shown bytes) k = k
reply-addressable s cpu (reply.Code answer) k = k
reply-addressable s cpu (reply.Status answer scsw) k = k
reply-addressable s cpu (reply.PathReset code) k = k
reply-addressable s cpu (reply.Offered number path resumed) k = k
reply-addressable s cpu (reply.ResetSent number path) k = k
reply-addressable s cpu (reply.HaltSent number path) k = k
reply-addressable s cpu reply.Pending k = k
reply-addressable s cpu reply.Idle k = k
reply-addressable s cpu (reply.Up signal taken sent) k = k
reply-addressable s cpu (reply.Down signal taken sent) k = k

-- the bytes of an operand are as many as it has
permitted-length : (check : Result (Unit {0}) StorageFault) (there bytes : List ℕ) → where_permitted check there ≡ Ok bytes → length bytes ≡ length there
permitted-length (Ok u) there bytes e = let same : there ≡ bytes = cc e in ap (λ (l : List ℕ). length l) (sym same)
permitted-length (Err f) there bytes e = absurd (cc e)

places-length : (s : Contents) (cpu address n : ℕ) → length (map (slice_index s.bytes) (absolute_addresses s cpu address n)) ≡ n
unfolding absolute_addresses
places-length s cpu address n = length-map (absolute_addresses s cpu address n) (slice_index s.bytes) ∙ length-map-range_with_len (absolute s cpu) address n

operand-length : (s : Contents) (cpu address n : ℕ) (bytes : List ℕ) → operand_at s cpu address n 4 ≡ Ok bytes → length bytes ≡ n
operand-length s cpu address n bytes is =
    permitted-length (operand_check s cpu address n 4) (map (slice_index s.bytes) (absolute_addresses s cpu address n)) bytes is ∙ places-length s cpu address n

-- storage at first, with a block at address 0
no-prefix : (n cpu : ℕ) → slice_index (replicate n 0) cpu ≡ 0
no-prefix zero cpu = refl
no-prefix (suc n) zero = refl
no-prefix (suc n) (suc cpu) = no-prefix n cpu

put-length : (bytes block : List ℕ) → length block ≤ length bytes → length (block ++ drop (0 + length block) bytes) ≡ length bytes
put-length bytes block h = let left = length-drop (0 + length block) bytes in omega (arith, h, left, length-append block (drop (0 + length block) bytes))

pub record IsHosts (blocks : ℕ) (s : Contents) : Type 0 where
  pub size : IsOfSize blocks s
  pub sound : IsAddressable s

of-blocks : (blocks : ℕ) (bytes : List ℕ) → IsHostSize blocks → length bytes ≡ 4096 * blocks → IsHosts blocks (record (cleared_storage blocks) { bytes = bytes })
of-blocks blocks bytes host whole =
    let keys = length-replicate blocks _ in
    record {
      size = record { bytes = whole; keys = keys; cpus = length-replicate {A = ℕ} 16 0 };
      sound = record {
        blocks = whole ∙ ap (λ (n : ℕ). 4096 * n) (sym keys);
        cpus = length-replicate {A = ℕ} 16 0;
        greatest = omega (arith, whole, host.1);
        prefixes = λ cpu. subst (λ (p : ℕ). IsPrefix (length bytes) p) (sym (no-prefix 16 cpu)) (refl, omega (arith, whole, host.0));
      };
    }

pub at-first : (blocks : ℕ) → IsHostSize blocks → IsHosts blocks (cleared_storage blocks)
at-first blocks host = of-blocks blocks (replicate (4096 * blocks) 0) host (length-replicate {A = ℕ} (4096 * blocks) 0)

put-there : (blocks n : ℕ) (block : List ℕ) → IsHostSize blocks → length block ≡ n → n ≤ 8192 → IsHosts blocks (put_at (cleared_storage blocks) 0 block)
put-there blocks n block host size low =
    let all = length-replicate {A = ℕ} (4096 * blocks) 0 in
    of-blocks blocks (block ++ drop (0 + length block) (replicate (4096 * blocks) 0)) host
    (put-length (replicate (4096 * blocks) 0) block (omega (arith, size, low, all, host.0)) ∙ all)

pub given-storage : (i : ByValue) (blocks cpu : ℕ) → IsHostSize blocks → HasOperand i (storage_with i blocks) cpu 0 → IsHosts blocks (storage_with i blocks)
given-storage (given.Ssch orb) blocks cpu host there = put-there blocks 12 orb host (operand-length (storage_with (given.Ssch orb) blocks) cpu 0 12 orb there) (omega arith)
given-storage (given.Msch schib) blocks cpu host there = put-there blocks 52 schib host (operand-length (storage_with (given.Msch schib) blocks) cpu 0 52 schib there) (omega arith)
given-storage given.Stsch blocks cpu host there = at-first blocks host
given-storage given.Tsch blocks cpu host there = at-first blocks host
