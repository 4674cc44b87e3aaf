-- Entries over an arena that grows.
use Rattle.std.proofs.Common.{◌≡◌, ◌≤◌, ◌<◌, ℕ, zero, suc, ◌+◌, ◌-◌, ◌∙◌, refl, sym, subst, ap, ap₂, add-one, List, [], ◌∷◌, ◌++◌, Some, arith, length, take, drop, get_or, map, length-append, length-drop}
use Rattle.std.proofs.Math.Seq.{drop-append_seam, take-length}
use Rattle.std.proofs.lemmas.List.{same_lists, take_all, take-append-le, take-append-drop, drop_all, drop-append-le, append-nil, get_or-map, length-map, length-take-le, map_push}
use Rattle.std.proofs.lemmas.List.Elements.{All-push}
use Rattle.std.proofs.lemmas.Option.{same_Some, slice_get_read}
use Rattle.std.specs.List.{slice_get}
use Rattle.std.specs.Prelude.{All}
use Rattle.chan_events.specs.Events.{Event}
use Rattle.chan_events.specs.declared.reply.Entry.{Entry}
use Rattle.chan_events.specs.Replies.{Reply}
use Rattle.chan_events.specs.declared.reply.Reply.TheVariants as reply
use Rattle.event_log.specs.declared.entries.KeptEntry.{KeptEntry}
use Rattle.chan_events.specs.declared.event.Event.TheVariants as event
use Rattle.chan_events.specs.Replies.{KeptReply}
use Rattle.event_log.specs.Entries.{entry_in, entry_length}
use Rattle.chan_events.specs.Events.{event_in, event_length}
use Rattle.chan_events.specs.Replies.{reply_in, reply_length}
use Rattle.chan_events.proofs.Packed.{reply-done, reply-front}
use Rattle.event_log.specs.Logs.{entry_at, entries_at, last_reply, room_of, unfinished, written_reply, Fits, AllFit, IsLogged, IsPending, IsWritten}

-- a piece that lies in an arena is the same in a longer one
cut-append : (arena more : List ℕ) (start count : ℕ) → start + count ≤ length arena →
    take count (drop start (arena ++ more)) ≡ take count (drop start arena)
cut-append arena more start count within =
    ap (take count) (drop-append-le start arena more (omega (arith, within)))
    ∙ take-append-le count (drop start arena) more (omega (arith, within, length-drop start arena))

entry-append : (arena more : List ℕ) (k : KeptEntry) → Fits (length arena) k → entry_at (arena ++ more) k ≡ entry_at arena k
entry-append arena more k fits = ap (entry_in k) (cut-append arena more k.start (entry_length k) fits)

-- any entry, for an index that a list does not have
blank : KeptEntry
blank = record { start = 0; event = event.SystemReset; reply = reply.Done }

entries-append : (arena more : List ℕ) (ks : List KeptEntry) → AllFit arena ks → entries_at (arena ++ more) ks ≡ entries_at arena ks
entries-append arena more ks fit =
    same_lists _ _ (length-map ks (entry_at (arena ++ more)) ∙ sym (length-map ks (entry_at arena))) (λ i d below.
    let within : i < length ks = omega (arith, below, length-map ks (entry_at (arena ++ more))) in
    get_or-map (entry_at (arena ++ more)) ks i blank d within
    ∙ entry-append arena more (get_or ks i blank) (fit i blank within)
    ∙ sym (get_or-map (entry_at arena) ks i blank d within))

-- what is known of an entry that is kept with its bytes at the end
pub record IsAdded (arena bytes : List ℕ) (k : KeptEntry) : Type 0 where
  pub start : k.start ≡ length arena
  pub long : entry_length k ≡ length bytes

entry-added : (arena bytes : List ℕ) (k : KeptEntry) → IsAdded arena bytes k → entry_at (arena ++ bytes) k ≡ entry_in k bytes
entry-added arena bytes k is =
    let after = ap (λ s. drop s (arena ++ bytes)) is.start ∙ drop-append_seam arena bytes in
    ap (entry_in k) (ap₂ take is.long after ∙ take-length bytes)

entries-added : (arena bytes : List ℕ) (ks : List KeptEntry) (k : KeptEntry) → AllFit arena ks → IsAdded arena bytes k →
    entries_at (arena ++ bytes) (ks ++ k ∷ []) ≡ entries_at arena ks ++ entry_in k bytes ∷ []
entries-added arena bytes ks k fit is =
    map_push (entry_at (arena ++ bytes)) ks k
    ∙ ap₂ (λ (h : List Entry) (x : Entry). h ++ x ∷ []) (entries-append arena bytes ks fit) (entry-added arena bytes k is)

-- entries that end before an index fit in an arena that goes on
pub fit-within : (arena : List ℕ) (start : ℕ) (ks : List KeptEntry) → start ≤ length arena → All (Fits start) ks → AllFit arena ks
fit-within arena start ks inside fit = λ i d within. omega (arith, fit i d within, inside)

fit-further : (near far : ℕ) (ks : List KeptEntry) → near ≤ far → All (Fits near) ks → All (Fits far) ks
fit-further near far ks further fit = λ i d within. omega (arith, fit i d within, further)

-- bytes behind an entry that is being written leave those before it
pub entries-stay : (arena more : List ℕ) (start : ℕ) (ks : List KeptEntry) → start ≤ length arena → All (Fits start) ks →
    entries_at (arena ++ more) ks ≡ entries_at arena ks
entries-stay arena more start ks inside fit = entries-append arena more ks (fit-within arena start ks inside fit)

-- a reply whose bytes are added where none of it stood
pub record IsBegun (arena : List ℕ) (start : ℕ) (before : KeptReply) : Type 0 where
  pub ends : start ≡ length arena
  pub none : reply_length before ≡ 0

pub begun : (arena : List ℕ) (ks : List KeptEntry) (start : ℕ) (k : KeptReply) → IsWritten arena ks start k → reply_in k (drop start arena) ≡ reply.Done → IsBegun arena start k
begun arena ks start k is fresh =
    let none : reply_length k ≡ 0 = reply-done k (drop start arena) (omega (arith, is.whole, length-drop start arena)) fresh in
    record { ends = omega (arith, is.whole, none); none = none }

pub added-behind : (arena more : List ℕ) (start : ℕ) → start ≡ length arena → drop start (arena ++ more) ≡ more
added-behind arena more start ends = ap (λ n. drop n (arena ++ more)) ends ∙ drop-append_seam arena more

pub told-behind : (arena more : List ℕ) (start : ℕ) (k : KeptReply) (r : Reply) → start ≡ length arena → ((rest : List ℕ) → reply_in k (more ++ rest) ≡ r) →
    reply_in k (drop start (arena ++ more)) ≡ r
told-behind arena more start k r ends told = ap (reply_in k) (added-behind arena more start ends ∙ sym (append-nil more)) ∙ told []

-- greater capacities have no less room
pub room-grows : (slots more count near far start : ℕ) → slots ≤ more → near ≤ far → room_of (slots - count) (near - start) ≤ room_of (more - count) (far - start)
room-grows slots more count near far start wider grows = omega (arith, wider, grows)

-- where there is room for an entry, there would be room for one before the first
pub room-needs : (slots size start : ℕ) → 1 ≤ room_of slots (size - start) → 768 ≤ size
room-needs slots size start some = omega (arith, some)

-- an entry stands behind those that have ended, which are as before
pub record IsBehind (items new : List KeptEntry) (count : ℕ) (k : KeptEntry) : Type 0 where
  pub front : take count new ≡ take count items
  pub behind : drop count new ≡ k ∷ []

pub behind : (items new : List KeptEntry) (count : ℕ) (k : KeptEntry) → count ≤ length items → new ≡ take count items ++ k ∷ [] → IsBehind items new count k
behind items new count k some is =
    let ks = take count items in
    let long : length ks ≡ count = length-take-le count items some in
    record {
      front = ap (take count) is ∙ (take-append-le count ks (k ∷ []) (omega (arith, long)) ∙ take_all count ks (omega (arith, long)));
      behind = ap (drop count) is ∙ (ap (λ n. drop n (ks ++ k ∷ [])) (sym long) ∙ drop-append_seam ks (k ∷ []));
    }

-- the entry that is being written is all that stands behind those that have ended
pub settled : (start : ℕ) (ks : List KeptEntry) → 0 < length ks → IsPending start ks → ks ≡ unfinished start (written_reply ks) ∷ []
settled start [] some is = absurd (omega (arith, some))
settled start (k ∷ []) some is = ap (λ x. x ∷ []) is
settled start (k ∷ l ∷ ks) some is = absurd is

pub all-settled : (start count : ℕ) (items : List KeptEntry) → count < length items → IsPending start (drop count items) →
    items ≡ take count items ++ unfinished start (written_reply (drop count items)) ∷ []
all-settled start count items some is =
    sym (take-append-drop count items) ∙ ap (λ ks. take count items ++ ks) (settled start (drop count items) (omega (arith, some, length-drop count items)) is)

-- once it has ended none is being written
pub all-ended : (arena : List ℕ) (ks : List KeptEntry) (k : KeptEntry) (count start : ℕ) → length ks ≡ count → IsWritten arena (ks ++ k ∷ []) start reply.Done →
    IsLogged arena (ks ++ k ∷ []) (count + 1) start
all-ended arena ks k count start long is =
    let all = ks ++ k ∷ [] in
    let size : length all ≡ length ks + 1 = length-append ks (k ∷ []) in
    let whole : take (count + 1) all ≡ all = take_all (count + 1) all (omega (arith, size, long)) in
    let none : drop (count + 1) all ≡ [] = drop_all (count + 1) all (omega (arith, size, long)) in
    record {
      some = omega (arith, size, long);
      pending = subst (λ (l : List KeptEntry). IsPending start l) (sym none) tt;
      written =
          subst (λ (l : List KeptEntry). IsWritten arena l start (written_reply (drop (count + 1) all))) (sym whole)
          (subst (λ (l : List KeptEntry). IsWritten arena all start (written_reply l)) (sym none) is);
    }

-- the entry that ends: its reply's bytes stand from its start on, and those of its event follow
pub ended : (arena more : List ℕ) (ks : List KeptEntry) (k : KeptEntry) (e : Event) → IsWritten arena ks k.start k.reply →
    ((rest : List ℕ) → event_in k.event (more ++ rest) ≡ e) → event_length k.event ≡ length more →
    entries_at (arena ++ more) (ks ++ k ∷ []) ≡ entries_at arena ks ++ record { event = e; reply = reply_in k.reply (drop k.start arena) } ∷ []
ended arena more ks k e is kept long =
    let behind-start = drop k.start arena in
    let size = length-drop k.start arena in
    let fits : reply_length k.reply ≤ length behind-start = omega (arith, is.whole, size) in
    let behind : drop k.start (arena ++ more) ≡ behind-start ++ more = drop-append-le k.start arena more is.inside in
    let all : take (entry_length k) (behind-start ++ more) ≡ behind-start ++ more = take_all (entry_length k) (behind-start ++ more) (omega (arith, is.whole, size, long, length-append behind-start more)) in
    let first : reply_in k.reply (behind-start ++ more) ≡ reply_in k.reply behind-start = reply-front k.reply behind-start more fits in
    let rest : drop (reply_length k.reply) (behind-start ++ more) ≡ more = ap (λ n. drop n (behind-start ++ more)) (omega (arith, is.whole, size)) ∙ drop-append_seam behind-start more in
    let second : event_in k.event (drop (reply_length k.reply) (behind-start ++ more)) ≡ e = ap (event_in k.event) (rest ∙ sym (append-nil more)) ∙ kept [] in
    map_push (entry_at (arena ++ more)) ks k
    ∙ ap₂ (λ (h : List Entry) (x : Entry). h ++ x ∷ []) (entries-append arena more ks (fit-within arena k.start ks is.inside is.fit))
    (ap (λ xs. entry_in k (take (entry_length k) xs)) behind ∙ ap (entry_in k) all ∙ ap₂ (λ (x : Event) (y : Reply). record { event = x; reply = y }) second first)

fit-more : (arena more : List ℕ) (ks : List KeptEntry) (k : KeptEntry) → IsWritten arena ks k.start k.reply → event_length k.event ≡ length more →
    IsWritten (arena ++ more) (ks ++ k ∷ []) (length (arena ++ more)) reply.Done
fit-more arena more ks k is long =
    let size = length-append arena more in
    record {
      fit = All-push (Fits (length (arena ++ more))) ks k (fit-further k.start (length (arena ++ more)) ks (omega (arith, is.inside, size)) is.fit) (omega (arith, is.whole, long, size));
      inside = omega arith;
      whole = omega arith;
      bound = omega arith;
    }

pub fit-ended : (arena more after : List ℕ) (ks later : List KeptEntry) (k : KeptEntry) (far : ℕ) → after ≡ arena ++ more → later ≡ ks ++ k ∷ [] → far ≡ length after →
    IsWritten arena ks k.start k.reply → event_length k.event ≡ length more → IsWritten after later far reply.Done
fit-ended arena more after ks later k far grew pushed counts is long =
    subst (λ (n : ℕ). IsWritten after later n reply.Done) (sym counts)
    (subst (λ (l : List KeptEntry). IsWritten after l (length after) reply.Done) (sym pushed)
    (subst (λ (a : List ℕ). IsWritten a (ks ++ k ∷ []) (length a) reply.Done) (sym grew) (fit-more arena more ks k is long)))

-- entries of which the last ends as it was written
pub ended-all : (arena more after : List ℕ) (items new : List KeptEntry) (k : KeptEntry) (count far : ℕ) → after ≡ arena ++ more → new ≡ take count items ++ k ∷ [] → far ≡ length after →
    count ≤ length items → IsWritten arena (take count items) k.start k.reply → event_length k.event ≡ length more → IsLogged after new (count + 1) far
ended-all arena more after items new k count far grew pushed counts some is long =
    subst (λ (l : List KeptEntry). IsLogged after l (count + 1) far) (sym pushed)
    (all-ended after (take count items) k count far (length-take-le count items some)
    (fit-ended arena more after (take count items) (take count items ++ k ∷ []) k far grew refl counts is long))

fit-added : (arena bytes : List ℕ) (ks : List KeptEntry) (before : KeptReply) (k : KeptEntry) → IsWritten arena ks k.start before → IsBegun arena k.start before →
    entry_length k ≡ length bytes → IsWritten (arena ++ bytes) (ks ++ k ∷ []) (length (arena ++ bytes)) reply.Done
fit-added arena bytes ks before k is new long =
    let size = length-append arena bytes in
    record {
      fit = All-push (Fits (length (arena ++ bytes))) ks k (fit-further k.start (length (arena ++ bytes)) ks (omega (arith, is.inside, size)) is.fit) (omega (arith, new.ends, long, size));
      inside = omega arith;
      whole = omega arith;
      bound = omega arith;
    }

pub added-all : (arena bytes after : List ℕ) (items new : List KeptEntry) (before : KeptReply) (k : KeptEntry) (count far : ℕ) → after ≡ arena ++ bytes → new ≡ take count items ++ k ∷ [] →
    far ≡ length after → count ≤ length items → IsWritten arena (take count items) k.start before → IsBegun arena k.start before → entry_length k ≡ length bytes →
    IsLogged after new (count + 1) far
added-all arena bytes after items new before k count far grew pushed counts some is begins long =
    subst (λ (l : List KeptEntry). IsLogged after l (count + 1) far) (sym pushed)
    (all-ended after (take count items) k count far (length-take-le count items some)
    (subst (λ (n : ℕ). IsWritten after (take count items ++ k ∷ []) n reply.Done) (sym counts)
    (subst (λ (a : List ℕ). IsWritten a (take count items ++ k ∷ []) (length a) reply.Done) (sym grew) (fit-added arena bytes (take count items) before k is begins long))))

-- so many of them are all of them
pub all-taken : (items new : List KeptEntry) (k : KeptEntry) (count : ℕ) → new ≡ take count items ++ k ∷ [] → count ≤ length items → take (count + 1) new ≡ take count items ++ k ∷ []
all-taken items new k count pushed some =
    let long = length-take-le count items some in
    take_all (count + 1) new (omega (arith, ap length pushed, length-append (take count items) (k ∷ []), long)) ∙ pushed

-- an entry that is added with its bytes, where none is being written
pub kept-added : (arena bytes : List ℕ) (ks : List KeptEntry) (before : KeptReply) (k : KeptEntry) → IsWritten arena ks k.start before → IsBegun arena k.start before →
    entry_length k ≡ length bytes → entries_at (arena ++ bytes) (ks ++ k ∷ []) ≡ entries_at arena ks ++ entry_in k bytes ∷ []
kept-added arena bytes ks before k is new long =
    entries-added arena bytes ks k (fit-within arena k.start ks is.inside is.fit) (record { start = new.ends; long = long })

-- the reply of the last entry
pub last-of : (f : KeptEntry → Entry) (ks : List KeptEntry) (n : ℕ) (d : KeptEntry) → suc n ≡ length ks → last_reply (map f ks) ≡ (f (get_or ks n d)).reply
last-of f [] n d e = absurd (omega (arith, e))
last-of f (k ∷ []) zero d e = refl
last-of f (k ∷ []) (suc n) d e = absurd (omega (arith, e))
last-of f (k ∷ l ∷ ks) zero d e = absurd (omega (arith, e))
last-of f (k ∷ l ∷ ks) (suc n) d e = last-of f (l ∷ ks) n d (omega (arith, e))

pub last-pushed : (h : List Entry) (e : Entry) → last_reply (h ++ e ∷ []) ≡ e.reply
last-pushed [] e = refl
last-pushed (x ∷ []) e = refl
last-pushed (x ∷ y ∷ h) e = last-pushed (y ∷ h) e

pub same_heads : {A : Type 0} (x y : A) (xs ys : List A) → x ∷ xs ≡ y ∷ ys → x ≡ y
same_heads x y xs ys e = cc

pub same_rests : {A : Type 0} (x y : A) (xs ys : List A) → x ∷ xs ≡ y ∷ ys → xs ≡ ys
same_rests x y xs ys e = cc

-- fronts of two lists that are the same, with one more that is the same
alike_suc : {A : Type 0} (xs ys : List A) (i : ℕ) → length xs ≡ length ys → i < length xs → slice_get xs i ≡ slice_get ys i → take i xs ≡ take i ys → take (suc i) xs ≡ take (suc i) ys
alike_suc [] ys i long lt same front = absurd (omega arith)
alike_suc (x ∷ xs) [] i long lt same front = absurd (omega arith)
alike_suc (x ∷ xs) (y ∷ ys) zero long lt same front = ap (λ z. z ∷ []) (same_Some x y same)
alike_suc (x ∷ xs) (y ∷ ys) (suc i) long lt same front =
    ap₂ (λ z zs. z ∷ zs) (same_heads _ _ _ _ front) (alike_suc xs ys i (omega arith) (omega arith) same (same_rests _ _ _ _ front))

pub alike_more : {A : Type 0} (xs ys : List A) (i : ℕ) → length xs ≡ length ys → i < length xs → slice_get xs i ≡ slice_get ys i → take i xs ≡ take i ys → take (i + 1) xs ≡ take (i + 1) ys
alike_more xs ys i long lt same front = subst (λ (k : ℕ). take k xs ≡ take k ys) (sym (add-one i)) (alike_suc xs ys i long lt same front)

-- and at the end
pub alike_whole : {A : Type 0} (xs ys : List A) (i : ℕ) → length xs ≡ length ys → length xs ≤ i → take i xs ≡ take i ys → xs ≡ ys
alike_whole xs ys i long all front = sym (take_all i xs all) ∙ front ∙ take_all i ys (omega (arith, long, all))

-- items that were read are those of the lists, where the items are the same
pub read_alike : {A : Type 0} (xs ys : List A) (i : ℕ) (x y : A) → length xs ≡ length ys → i < length xs → x ≡ get_or xs i x → y ≡ get_or ys i y → x ≡ y → slice_get xs i ≡ slice_get ys i
read_alike xs ys i x y long lt one other same =
    slice_get_read xs (length xs) i x refl lt one ∙ ap Some same ∙ sym (slice_get_read ys (length ys) i y refl (omega (arith, lt, long)) other)
