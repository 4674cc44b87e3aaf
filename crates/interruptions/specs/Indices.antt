-- The requests by indices, linked in the order of posting, and in a queue for each subclass (own). Each subchannel that there is
-- room for has an index; of the eight numbers before the indices each stands for a queue, and the first for the order too.
use Rattle.std.proofs.Common.{lit<}
use Rattle.std.specs.Prelude.{ℕ, ◌+◌, ◌*◌, ◌<◌, ◌≤◌, ◌≡◌, ◌==◌, Bool, true, false, List, [], ◌∷◌, Option, length, map, nat_eq, slice_get, slice_index_or}
use Rattle.std.specs.List.{IsDistinct, filter}
use Rattle.zbits.specs.Bits.{bit_of}
use Rattle.scsw_irb.specs.declared.code.IntCode.{IntCode}
use Rattle.interruptions.specs.Circles.{Circles, next_of}
use Rattle.interruptions.specs.Paths.{IsCircle, follow, has}
use Rattle.interruptions.specs.Requests.{WaitingRequests}

pub record Tables : Type 0 where
  pub numbers : ℕ
  pub requests : List IntCode
  pub order : Circles
  pub queues : Circles
  pub summary : ℕ

-- what stands at an index before a request was posted there
abbrev pub no_request : IntCode
no_request = record { set = 0; subchannel = 0; parameter = 0; subclass = 0; set_fits = lit< tt; subclass_fits = lit< tt }

-- the index of a subchannel; of set 0 and the first number that has no index, the end of the indices
abbrev pub index_of : ℕ → ℕ → ℕ
index_of set number = 8 + (4 * number + set)

abbrev pub request_index : IntCode → ℕ
request_index request = index_of request.set request.subchannel

abbrev pub request_at : List IntCode → ℕ → IntCode
request_at requests index = slice_index_or requests index no_request

abbrev pub requests_of : List IntCode → List ℕ → List IntCode
requests_of requests indices = map (request_at requests) indices

-- the indices of one subclass
abbrev pub is_class : List IntCode → ℕ → ℕ → Bool
is_class requests subclass index = (request_at requests index).subclass == subclass

abbrev pub of_subclass : List IntCode → ℕ → List ℕ → List ℕ
of_subclass requests subclass indices = filter (is_class requests subclass) indices

abbrev pub is_some : List ℕ → Bool
is_some [] = false
is_some (index ∷ indices) = true

-- a byte has the bit of a subclass; its leftmost bit is that of subclass 0
abbrev pub has_subclass : ℕ → ℕ → Bool
has_subclass byte subclass = bit_of byte (24 + subclass) == 1

-- each index has its own subchannel's request
abbrev pub AreOwn : List IntCode → List ℕ → Type 0
AreOwn requests indices = (p : ℕ) → has p indices ≡ true → request_index (request_at requests p) ≡ p

-- those indices wait, in this order; the others are linked to themselves
pub record Wait (t : Tables) (indices : List ℕ) : Type 0 where
  pub own : AreOwn t.requests indices
  pub below : (p : ℕ) → has p indices ≡ true → p < index_of 0 t.numbers
  pub distinct : IsDistinct nat_eq indices
  pub ordered : IsCircle t.order 0 indices
  pub alone : (p : ℕ) → 8 ≤ p → p < index_of 0 t.numbers → has p indices ≡ false → IsCircle t.order p []
  pub queue : (subclass : ℕ) → subclass < 8 → IsCircle t.queues subclass (of_subclass t.requests subclass indices)
  pub bits : (subclass : ℕ) → subclass < 8 → has_subclass t.summary subclass ≡ is_some (of_subclass t.requests subclass indices)

-- the indices that wait, in the order of posting
abbrev pub waiting : Tables → List ℕ
waiting t = follow (next_of t.order) (index_of 1 t.numbers) 0 0

-- the indices that wait are those that the links of the order lead to, and each table has all indices
pub record AreQueued (t : Tables) : Type 0 where
  pub requests_long : length t.requests ≡ index_of 0 t.numbers
  pub order_long : length t.order.next ≡ index_of 0 t.numbers
  pub queues_long : length t.queues.next ≡ index_of 0 t.numbers
  pub wait : Wait t (waiting t)

abbrev pub value_of : Tables → WaitingRequests
value_of t = record { requests = requests_of t.requests (waiting t); numbers = t.numbers }

-- of the requests in the order of posting the first of a subclass
abbrev pub first_of : List IntCode → ℕ → Option IntCode
first_of requests subclass = slice_get (filter (λ request. request.subclass == subclass) requests) 0
