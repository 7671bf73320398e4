-- The numbers of each answer of the functions on environment strings, by its cases.
use Rattle.std.specs.Prelude.{List, ℕ, Option, None, Some, Result, Ok, Err}
use Rattle.refusal.specs.declared.Refusal.{Refusal}
use Rattle.refusal.specs.Refusal.{number}
use Rattle.env_delivery.specs.declared.Payload.{Payload}
use Rattle.env_delivery.specs.Promise.{Delivery}
use Rattle.env_search.specs.declared.ValuePlace.{ValuePlace}
use Rattle.export_env.specs.declared.TvPayload.{TvPayload}
use Rattle.export_env.specs.declared.TvValue.{TvValue}

abbrev pub payload_numbers : Result Payload Refusal → TvPayload
payload_numbers (Ok p) = record { refusal = 0; first = p.first; variables = p.count; bytes = p.used }
payload_numbers (Err e) = record { refusal = number e; first = 0; variables = 0; bytes = 0 }

-- the numbers of an answer with a buffer and a list of records as they are left
pub record ReadOut : Type 0 where
  pub answer : TvPayload
  pub bytes : List ℕ
  pub numbers : List ℕ

abbrev pub read_out : TvPayload → (b n : List ℕ) → ReadOut
read_out a b n = record { answer = a; bytes = b; numbers = n }

abbrev pub read_numbers : Delivery → ReadOut
read_numbers d = read_out (payload_numbers d.answer) d.bytes d.numbers

abbrev pub place_numbers : Option ValuePlace → TvValue
place_numbers None = record { present = 0; at = 0; length = 0 }
place_numbers (Some p) = record { present = 1; at = p.at; length = p.length }
