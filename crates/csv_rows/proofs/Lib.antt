-- Laws of the text's parts.
pub mod RowTexts
pub mod TextParts
