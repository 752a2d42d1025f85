-- What a closure captures may cross threads where each capture may.
use mathlib.Core.List.{[], ◌∷◌}
use mir.Syntax.{Sym}
use denote.RattleType.{RattleType}
use denote.Struct.Declared.{shape}
use denote.Struct.Struct.{Struct}
use denote.Struct.Tuple.{TupleAt, type_at}
use denote.Param.Send.{IsSend, recorded_send, struct_send}

pub captures_send : (ν : Sym) (A B C D E F : RattleType) → IsSend A → IsSend B → IsSend C → IsSend D → IsSend E → IsSend F → IsSend (TupleAt ν (A ∷ B ∷ C ∷ D ∷ E ∷ F ∷ []))
captures_send ν A B C D E F a b c d e f = let T = type_at ν (A ∷ B ∷ C ∷ D ∷ E ∷ F ∷ []) in recorded_send (Struct (shape T)) T.D T.to T.to_one (struct_send (shape T) (a, (b, (c, (d, (e, (f, tt)))))))
