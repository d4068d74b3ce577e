pub mod ZeroBytes
pub mod FloatReading
