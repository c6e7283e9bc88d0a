-- What was read of a text or a file, and why one is refused, from what reading, parsing and decoding say.
use Rattle.std.proofs.Common.{◌≡◌, ◌⊎◌, ℕ, List, [], Some, None, sym, ap, ◌∙◌, inl, inr}
use Rattle.std.specs.Str.{IsUtf8}
use Rattle.toml.specs.Data.{Members}
use Rattle.toml.specs.Parse.{parse_document}
use Rattle.cc2_error.specs.Causes.{memory, not_text, refused_text, Refusal, refusal_of, plain, in_context}
use Rattle.cc2_error.specs.declared.error.Error.{Error}
use Rattle.cc2_base.specs.Told.{Tree}
use Rattle.cc2_value.specs.Cells.{Origin}
use Rattle.cc2_value.specs.Ways.{IsDecoded, IsFaultBehind}
use Rattle.cc2_de.specs.declared.config.Config.{Config}
use Rattle.cc2_de.specs.Config.{config_at, decoded, config_faults}
use Rattle.cc2_de.specs.Contexts.{read_line, parse_line, override_line, IsToldIn}
use Rattle.cc2_de.specs.ConfigFile.{IsFileCause, IsText, bytes_members, member_cells_at}
use Rattle.cc2_de.specs.ConfigText.{IsOfText, IsTextCause}
use Rattle.cc2_de.specs.LoadedFiles.{IsOfFileAs}

module _ (text : List ℕ) where
  pub text_read : (origin : Origin) (ms : Members) (config : Config) → parse_document text ≡ Some ms
      → IsDecoded config_at (decoded (Some origin) ms) (config_faults ms) config → IsOfText text origin config
  text_read origin ms config parsed read =
      (record { members = ms; parsed = parsed; faultless = read.0 }, λ p. read.1 p ∙ ap (λ o. member_cells_at origin o p) (sym parsed))

  pub unparsed : (refusal : Refusal) → (refusal ≡ plain memory) ⊎ ((parse_document text ≡ None) × ((message : List ℕ) × (refusal ≡ plain (refused_text message))))
      → (refusal ≡ plain memory) ⊎ IsTextCause text refusal
  unparsed refusal (inl wants) = inl wants
  unparsed refusal (inr why) = inr (inl (record { parsed = why.0; message = why.1.0; is = why.1.1 }))

  pub faulty : (ms : Members) (e : Error) → parse_document text ≡ Some ms → IsFaultBehind [] (config_faults ms) e
      → (refusal_of e ≡ plain memory) ⊎ IsTextCause text (refusal_of e)
  faulty ms e parsed (inl wants) = inl wants
  faulty ms e parsed (inr why) = inr (inr (record { members = ms; parsed = parsed; flaw = why.0; fault = why.1; is = why.2 }))

module _ (fs : Tree) (path bytes : List ℕ) where
  pub file_read : (origin : Origin) (config : Config) → IsText fs path bytes → IsOfText bytes origin config → IsOfFileAs fs path origin config
  file_read origin config text read = (
    record { bytes = bytes; text = text; members = read.0.members; parsed = read.0.parsed; faultless = read.0.faultless },
    λ p. read.1 p ∙ ap (λ o. member_cells_at origin (bytes_members o) p) (sym text.0),
  )

  module _ (refusal : Refusal) where
    pub not_text_refused : fs path ≡ Some (Some bytes) → ¬ (IsUtf8 bytes) → (refusal ≡ plain memory) ⊎ (refusal ≡ in_context (read_line path) (plain not_text))
        → (refusal ≡ plain memory) ⊎ IsFileCause fs path refusal
    not_text_refused at apart (inl wants) = inl wants
    not_text_refused at apart (inr is) = inr (inr (inl ((bytes, at, apart), is)))

    pub text_refused : (inner : Refusal) → IsText fs path bytes → (inner ≡ plain memory) ⊎ IsTextCause bytes inner → IsToldIn (parse_line path) inner refusal
        → (refusal ≡ plain memory) ⊎ IsFileCause fs path refusal
    text_refused inner text why (inl wants) = inl wants
    text_refused inner text (inl wants) (inr told) = absurd (told.0 (ap (λ r. r.cause) wants))
    text_refused inner text (inr (inl why)) (inr told) =
        inr (inr (inr (inl (record { bytes = bytes; text = text; parsed = why.parsed; message = why.message; is = told.1 ∙ ap (in_context (parse_line path)) why.is }))))
    text_refused inner text (inr (inr why)) (inr told) =
        inr (inr (inr (inr (record {
          bytes = bytes;
          text = text;
          members = why.members;
          parsed = why.parsed;
          flaw = why.flaw;
          fault = why.fault;
          is = told.1 ∙ ap (in_context (parse_line path)) why.is;
        }))))

-- the refusal of a text among overrides
pub override_refused : (text : List ℕ) (n : ℕ) (inner refusal : Refusal) → (inner ≡ plain memory) ⊎ IsTextCause text inner → IsToldIn (override_line n) inner refusal
    → (refusal ≡ plain memory) ⊎ ((cause : Refusal) × IsTextCause text cause × (refusal ≡ in_context (override_line n) cause))
override_refused text n inner refusal why (inl wants) = inl wants
override_refused text n inner refusal (inl wants) (inr told) = absurd (told.0 (ap (λ r. r.cause) wants))
override_refused text n inner refusal (inr why) (inr told) = inr (inner, why, told.1)
