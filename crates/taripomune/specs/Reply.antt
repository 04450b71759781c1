-- An answer as the numbers that cross the C interface.
use Rattle.std.specs.Prelude.{ℕ, Bool, true, false, List, Result, Ok, Err}
use Rattle.fields.specs.Refusal.{number_of, position_of}
use Rattle.fields.specs.QM31.{word_at}
use Rattle.fields.specs.declared.m31.M31.{M31}
use Rattle.fields.specs.declared.cm31.CM31.{CM31}
use Rattle.fields.specs.declared.qm31.QM31.{QM31}
use Rattle.fields.specs.declared.refusal.Refusal.{Refusal}
use Rattle.circle.specs.declared.point.CirclePoint.{CirclePoint}
use Rattle.circle.specs.declared.index.CirclePointIndex.{CirclePointIndex}
use Rattle.taripomune.specs.declared.reply.M31Reply.{M31Reply}
use Rattle.taripomune.specs.declared.reply.BoolReply.{BoolReply}
use Rattle.taripomune.specs.declared.reply.CM31Reply.{CM31Reply}
use Rattle.taripomune.specs.declared.reply.QM31Reply.{QM31Reply}
use Rattle.taripomune.specs.declared.reply.U32Reply.{U32Reply}
use Rattle.taripomune.specs.declared.reply.U64Reply.{U64Reply}
use Rattle.taripomune.specs.declared.reply.PointReply.{PointReply}
use Rattle.taripomune.specs.declared.reply.SecurePointReply.{SecurePointReply}
use Rattle.taripomune.specs.declared.reply.IndexReply.{IndexReply}
use Rattle.taripomune.specs.declared.reply.WriteReply.{WriteReply}

-- the word of an element
abbrev pub m31_reply : Result M31 Refusal → M31Reply
m31_reply (Ok a) = record { number = 0; position = 0; value = a.0 }
m31_reply (Err why) = record { number = number_of why; position = position_of why; value = 0 }

-- yes as 1, no as 0
abbrev pub yes_or_no : Bool → ℕ
yes_or_no true = 1
yes_or_no false = 0

-- yes is 1, no is 0
abbrev pub bool_reply : Result Bool Refusal → BoolReply
bool_reply (Ok b) = record { number = 0; position = 0; value = yes_or_no b }
bool_reply (Err why) = record { number = number_of why; position = position_of why; value = 0 }

-- a number as it is
abbrev pub u32_reply : Result ℕ Refusal → U32Reply
u32_reply (Ok value) = record { number = 0; position = 0; value = value }
u32_reply (Err why) = record { number = number_of why; position = position_of why; value = 0 }

-- a number as it is
abbrev pub u64_reply : Result ℕ Refusal → U64Reply
u64_reply (Ok value) = record { number = 0; position = 0; value = value }
u64_reply (Err why) = record { number = number_of why; position = position_of why; value = 0 }

-- the words of a + bi
abbrev pub cm31_reply : Result CM31 Refusal → CM31Reply
cm31_reply (Ok x) = record { number = 0; position = 0; a = x.0.0; b = x.1.0 }
cm31_reply (Err why) = record { number = number_of why; position = position_of why; a = 0; b = 0 }

-- the words of (a + bi) + (c + di)u
abbrev pub qm31_reply : Result QM31 Refusal → QM31Reply
qm31_reply (Ok x) = record {
  number = 0;
  position = 0;
  a = x.0.0.0;
  b = x.0.1.0;
  c = x.1.0.0;
  d = x.1.1.0;
}
qm31_reply (Err why) = record { number = number_of why; position = position_of why; a = 0; b = 0; c = 0; d = 0 }

-- an array of four words crosses as an element of QM31 does
abbrev pub array_reply : Result (List M31) Refusal → QM31Reply
array_reply (Ok array) = record {
  number = 0;
  position = 0;
  a = word_at array 0;
  b = word_at array 1;
  c = word_at array 2;
  d = word_at array 3;
}
array_reply (Err why) = record { number = number_of why; position = position_of why; a = 0; b = 0; c = 0; d = 0 }

-- x and y
abbrev pub point_reply : Result (CirclePoint M31) Refusal → PointReply
point_reply (Ok value) = record { number = 0; position = 0; x = value.x.0; y = value.y.0 }
point_reply (Err why) = record { number = number_of why; position = position_of why; x = 0; y = 0 }

-- the words of x and then of y
abbrev pub secure_point_reply : Result (CirclePoint QM31) Refusal → SecurePointReply
secure_point_reply (Ok value) = record {
  number = 0;
  position = 0;
  x0 = value.x.0.0.0;
  x1 = value.x.0.1.0;
  x2 = value.x.1.0.0;
  x3 = value.x.1.1.0;
  y0 = value.y.0.0.0;
  y1 = value.y.0.1.0;
  y2 = value.y.1.0.0;
  y3 = value.y.1.1.0;
}
secure_point_reply (Err why) = record {
  number = number_of why;
  position = position_of why;
  x0 = 0;
  x1 = 0;
  x2 = 0;
  x3 = 0;
  y0 = 0;
  y1 = 0;
  y2 = 0;
  y3 = 0;
}

-- the index as a number
abbrev pub index_reply : Result CirclePointIndex Refusal → IndexReply
index_reply (Ok value) = record { number = 0; position = 0; index = value.0 }
index_reply (Err why) = record { number = number_of why; position = position_of why; index = 0 }

-- the words written stand in the slice that was lent
abbrev pub write_reply : Result (Unit {0}) Refusal → WriteReply
write_reply (Ok _) = record { number = 0; position = 0 }
write_reply (Err why) = record { number = number_of why; position = position_of why }
